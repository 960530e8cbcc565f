use Rattle.std.proofs.Common.{ℕ, List, [], ◌∙◌, ap, sym, subst, arith}
use Rattle.html_links.specs.Pieces.{until, from, ends_bare_value}
use Rattle.page_links.specs.Places.{IsCut}
use Rattle.page_links.proofs.Cutting.{bare_cut}
use Rattle.page_links.proofs.cut.cut_bare.Goals as goal

pub returns : goal.returns
returns c =
    subst (λ (text : List ℕ). IsCut text [] c.split_bare.result.0.now c.split_bare.result.1.now) (sym c.requires.text)
    (bare_cut c.args.first c.args.others.now c.split_bare.result.0.now c.split_bare.result.1.now c.requires.quote c.requires.white
    (c.split_bare.ensures.front ∙ ap (until ends_bare_value) c.requires.text) (c.split_bare.ensures.left ∙ ap (from ends_bare_value) c.requires.text) (grind arith))
