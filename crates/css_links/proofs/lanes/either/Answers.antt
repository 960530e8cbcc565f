use Rattle.std.proofs.Common.{bit_or}
use Rattle.memchr.proofs.lemmas.LaneLemmas.{HasLanes-zip2}
use Rattle.css_links.proofs.Vectors.{joined}
use Rattle.css_links.proofs.lanes.either.Goals as goal

pub returns : goal.returns
returns c = λ f g bytes p q. joined f g bytes c.args.one c.args.other _ (HasLanes-zip2 bit_or c.args.one c.args.other c.fits-one.0 c.fits-other.0) p q
