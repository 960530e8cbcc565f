-- The options so far aren't near.
use Rattle.std.proofs.Common.{◌≡◌, drop, map}
use Rattle.options.specs.Hints.{first_near}
use Rattle.options.specs.inner.Table.{row_in}
use Rattle.options.proofs.hint.first_near.Given as goal

abbrev pub invariant-loop-row : goal.invariant-loop-row
invariant-loop-row l = first_near l.most l.name (map row_in l.rows) ≡ first_near l.most l.name (map row_in (drop l.row-index l.rows))
