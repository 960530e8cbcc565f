-- Names that begin with a directory are together.
use Rattle.std.proofs.Common.{rules, ◌∙◌}
use Rattle.std.proofs.lemmas.Fn.{always_returns_same}
use Rattle.mirror_upkeep.specs.inner.Lent.{front_order}
use Rattle.mirror_upkeep.proofs.NameLaws.{below_found}
use Rattle.mirror_upkeep.proofs.names.has_front.Goals as goal

pub returns : goal.returns
returns c name is =
    let facts = c.binary_search_by-place.ensures in
    let ends = facts.position (front_order c.args.front.now) (always_returns_same _ _ _ (λ a r f k. search rules)) in
    c.is_ok.ensures.value ∙ below_found c.args.names.now name c.args.front.now c.binary_search_by-place.result is c.requires facts.bound ends
