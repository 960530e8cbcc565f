-- Nothing is kept yet.
use Rattle.std.proofs.Common.{refl}
use Rattle.site_maps.proofs.ReadingLaws.{tells_nothing}
use Rattle.site_maps.proofs.reading.MapReading.new.Goals as goal

pub returns : goal.returns
returns c = tells_nothing _ refl c.new.ensures.empty c.new-2.ensures.empty
