use Rattle.std.proofs.Common.{length}
use Rattle.page_links.proofs.unclear.is_unclear_value.Given as goal

abbrev pub decreases-loop-first : goal.decreases-loop-first
decreases-loop-first l = length l.rest
