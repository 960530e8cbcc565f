-- The log of asks after a call that ran out of memory.
use Rattle.std.specs.Prelude.{◌≡◌, List, [], ◌∷◌, ◌++◌, ◌⊎◌}

-- the log is what it was, or has gained only this ask at its end
abbrev pub GainedAtMost : {A : Type 0} → List A → List A → A → Type 0
GainedAtMost old new ask = (new ≡ old) ⊎ (new ≡ old ++ ask ∷ [])
