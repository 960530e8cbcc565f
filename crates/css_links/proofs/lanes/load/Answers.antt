use Rattle.std.proofs.lemmas.Simd.{length-chunk, get_or-chunk}
use Rattle.css_links.proofs.lanes.load.Goals as goal

pub returns : goal.returns
returns c = record { long = length-chunk c.args.at 32 c.args.text.now c.requires; each = λ k l. get_or-chunk c.args.at 32 c.args.text.now k 0 l }
