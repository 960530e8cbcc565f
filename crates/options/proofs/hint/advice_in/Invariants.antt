-- The options so far don't have the form.
use Rattle.std.proofs.Common.{◌≡◌, drop, map}
use Rattle.options.specs.Hints.{advice_in}
use Rattle.options.specs.inner.Table.{instead_in}
use Rattle.options.proofs.hint.advice_in.Given as goal

abbrev pub invariant-loop-row : goal.invariant-loop-row
invariant-loop-row l = advice_in l.form (map instead_in l.rows) ≡ advice_in l.form (map instead_in (drop l.row-index l.rows))
