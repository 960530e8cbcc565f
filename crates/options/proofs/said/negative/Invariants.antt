-- The options so far have another short form.
use Rattle.std.proofs.Common.{◌≡◌, drop, map}
use Rattle.options.specs.Said.{negative}
use Rattle.options.specs.inner.Table.{row_in}
use Rattle.options.proofs.said.negative.Given as goal

abbrev pub invariant-loop-row : goal.invariant-loop-row
invariant-loop-row l = negative l.text (map row_in l.rows) ≡ negative l.text (map row_in (drop l.row-index l.rows))
