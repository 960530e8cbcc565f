-- The options so far have another letter.
use Rattle.std.proofs.Common.{◌≡◌, drop, map}
use Rattle.options.specs.Said.{letter_in}
use Rattle.options.specs.inner.Table.{row_in}
use Rattle.options.proofs.said.letter_in.Given as goal

abbrev pub invariant-loop-row : goal.invariant-loop-row
invariant-loop-row l = letter_in l.letters (map row_in l.rows) ≡ letter_in l.letters (map row_in (drop l.row-index l.rows))
