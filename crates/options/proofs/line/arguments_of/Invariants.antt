-- The arguments so far are those of the rows so far.
use Rattle.std.proofs.Common.{◌≡◌, false, map, take}
use Rattle.std.specs.Prelude.{All}
use Rattle.clap.specs.Words.{rule_of}
use Rattle.options.specs.Line.{option_rule}
use Rattle.options.specs.inner.Table.{row_in}
use Rattle.options.proofs.line.arguments_of.Given as goal

abbrev pub invariant-loop-row : goal.invariant-loop-row
invariant-loop-row l = (map rule_of l.args.items ≡ map option_rule (map row_in (take l.row-index l.rows))) × All (λ a. a.global ≡ false) l.args.items
