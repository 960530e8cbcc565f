-- The modes so far count, and those that are left will.
use Rattle.std.proofs.Common.{◌≡◌, drop}
use Rattle.local_names.specs.Rules.{usual_chars}
use Rattle.options.specs.Naming.{with_modes}
use Rattle.options.proofs.naming.with_modes.Given as goal

abbrev pub invariant-loop-mode : goal.invariant-loop-mode
invariant-loop-mode l = with_modes l.chars (drop l.mode-index l.modes) ≡ with_modes usual_chars l.modes
