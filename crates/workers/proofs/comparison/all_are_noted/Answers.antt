use Rattle.std.proofs.Common.{refl}
use Rattle.workers.proofs.FollowedLaws.{recorded_noted}
use Rattle.workers.proofs.comparison.all_are_noted.Goals as goal

pub returns-then-are_no_more-clause-noted : goal.returns-then-are_no_more-clause-noted
returns-then-are_no_more-clause-noted g c so u some =
    recorded_noted c.args.frontier.now.state c.args.notes.now c.requires.once c.requires.stand (c.if-are_answered.ensures refl) (c.if-are_no_more.ensures refl) u some
