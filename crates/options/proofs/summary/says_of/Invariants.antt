-- The summaries so far are of other options.
use Rattle.std.proofs.Common.{◌≡◌, drop, map}
use Rattle.options.specs.Help.{says_of}
use Rattle.options.specs.inner.Table.{summary_in}
use Rattle.options.proofs.summary.says_of.Given as goal

abbrev pub invariant-loop-summary : goal.invariant-loop-summary
invariant-loop-summary l = says_of l.name (map summary_in l.summaries) ≡ says_of l.name (map summary_in (drop l.summary-index l.summaries))
