use Rattle.std.proofs.Common.{refl}
use Rattle.mirror_upkeep.proofs.ReadingLaws.{holds_answer}
use Rattle.mirror_upkeep.proofs.reading.add_answer.Goals as goal

pub returns : goal.returns
returns c said holds = holds_answer said c.args.read.now _ c.args.answer c.in_ok-push.ensures.items refl holds
