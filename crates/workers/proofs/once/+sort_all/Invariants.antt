use Rattle.std.proofs.Common.{length}
use Rattle.workers.proofs.once.+sort_all.Given as goal

abbrev pub decreases-sort_all : goal.decreases-sort_all
decreases-sort_all g l = length l.seats.now
