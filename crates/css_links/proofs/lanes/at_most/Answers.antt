use Rattle.std.proofs.Common.{cond, leb, get_or, replicate, sym, subst, w8}
use Rattle.std.proofs.lemmas.Simd.{tops_compared}
use Rattle.std.specs.Simd.Lanes.{sel_l}
use Rattle.memchr.proofs.lemmas.LaneLemmas.{HasLanes-select}
use Rattle.memchr.specs.Lanes.{HasLanes}
use Rattle.css_links.proofs.Vectors.{compared}
use Rattle.css_links.proofs.lanes.at_most.Goals as goal

pub returns : goal.returns
returns c =
    let v = c.args.bytes in
    let x = c.args.byte in
    compared leb v _ x (subst (λ ms. HasLanes (sel_l ms (replicate 32 255) (replicate 32 0)) (λ k. cond (leb (get_or v k 0) x) 255 0))
    (sym (tops_compared w8 leb v (replicate 32 x))) (HasLanes-select leb v x 255 0 c.fits-bytes.0))
