-- Tries: a fetcher is asked one thing, and again only after what is worth another try. What was received last is what is answered.
use Rattle.std.specs.Prelude.{◌≡◌, ◌⊎◌, ◌≤◌, ℕ, Bool, true, false, List, [], ◌∷◌, ◌++◌, length, Option}
use Rattle.run_failures.specs.declared.loss_kind.LossKind.{LossKind}
use Rattle.fetcher.specs.declared.fetcher.Ask.{Ask}

-- a fetcher's log, why it lost its last connection, what it may receive of its site, what is worth another try if a connection was lost for
-- this reason, and what is requested
module _ {F X : Type 0} (log : F → List Ask) (lost : F → Option LossKind) (Says : F → X → Type 0) (worth : X → Option LossKind → Bool) (ask : Ask) where
  -- the fetcher was asked once, and received this
  abbrev pub IsTry : F → F → X → Type 0
  IsTry old new received = (log new ≡ log old ++ ask ∷ []) × Says old received

  -- it received something each time that was worth another try, if its connection was lost for the reason that it had then, and at last this
  abbrev pub AreTries : F → List (X × F) → F → X → Type 0
  AreTries old [] new received = IsTry old new received
  AreTries old (earlier ∷ more) new received =
      IsTry old earlier.1 earlier.0 × (worth earlier.0 (lost earlier.1) ≡ true) × AreTries earlier.1 more new received

  -- it was asked once and so often again, and received this last
  abbrev pub TriesSoFar : ℕ → F → F → X → Type 0
  TriesSoFar made old new received = (earlier : List (X × F)) × AreTries old earlier new received × (length earlier ≡ made)

  -- it was asked once and at most so often again, and received this last, which is not worth another try, by the reason that it has now; or
  -- all repeats are used up
  abbrev pub IsLastOf : ℕ → F → F → X → Type 0
  IsLastOf most old new received =
      (earlier : List (X × F)) × AreTries old earlier new received × (length earlier ≤ most)
      × ((worth received (lost new) ≡ false) ⊎ (length earlier ≡ most))
