use Rattle.std.proofs.Common.{◌≡◌, ℕ, List, [], ◌∷◌, ◌∙◌, take, ap, sym, subst, arith}
use Rattle.page_links.specs.Places.{IsCut}
use Rattle.page_links.proofs.Cutting.{quoted_cut}
use Rattle.page_links.proofs.cut.cut_quoted.Goals as goal

pub returns : goal.returns
returns c =
    let opening : c.split_at.result.0.now ≡ c.args.quote ∷ [] = c.split_at.ensures.front ∙ ap (take 1) c.requires.text in
    subst (λ (text : List ℕ). IsCut text c.split_at.result.0.now c.split_at_byte.result.0.now c.split_at_byte.result.1.now) (sym c.requires.text)
    (subst (λ (quote : List ℕ). IsCut (c.args.quote ∷ c.args.others.now) quote c.split_at_byte.result.0.now c.split_at_byte.result.1.now) (sym opening)
    (quoted_cut c.args.quote c.args.others.now c.split_at_byte.result.0.now c.split_at_byte.result.1.now c.requires.quote c.split_at_byte.ensures.front c.split_at_byte.ensures.left (grind arith)))
