use Rattle.std.proofs.Common.{refl}
use Rattle.mirror_upkeep.proofs.ReadingLaws.{holds_page}
use Rattle.mirror_upkeep.proofs.reading.add_page.Goals as goal

pub returns : goal.returns
returns c said holds = holds_page said c.args.read.now _ c.args.entry c.in_ok-push.ensures.items refl holds
