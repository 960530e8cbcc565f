-- The outcome beside the address is there.
use Rattle.std.proofs.Common.{subst}
use Rattle.std.specs.Prelude.{IsTrue}
use Rattle.harvest.proofs.PlaceLaws.{place_here}
use Rattle.harvest.proofs.gathering.stands_at.Goals as goal

pub returns-then-place-records : goal.returns-then-place-records
returns-then-place-records c = λ same.
    place_here c.args.records.now c.args.address.now c.args.place c.index-records-place.result c.if-place-records.true (subst IsTrue c.eq.ensures same)
