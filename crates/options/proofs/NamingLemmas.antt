-- Modes, one after another.
use Rattle.std.proofs.Common.{◌≡◌, ◌+◌, ◌<◌, ◌≤◌, ℕ, List, drop, get_or, length}
use Rattle.std.proofs.lemmas.List.{at_drop_more, at_drop_all}
use Rattle.local_names.specs.declared.rules.CharRules.{CharRules}
use Rattle.options.specs.Naming.{with_mode, with_modes}
use Rattle.options.specs.declared.naming.Mode.{Mode}

pub with_modes-step : (chars : CharRules) (modes : List Mode) (i : ℕ) (d : Mode) → i < length modes → with_modes chars (drop i modes) ≡ with_modes (with_mode chars (get_or modes i d)) (drop (i + 1) modes)
with_modes-step chars modes i d below = at_drop_more (λ rest. with_modes chars rest) modes i d below

pub with_modes-end : (chars : CharRules) (modes : List Mode) (i : ℕ) → length modes ≤ i → with_modes chars (drop i modes) ≡ chars
with_modes-end chars modes i past = at_drop_all (λ rest. with_modes chars rest) modes i past
