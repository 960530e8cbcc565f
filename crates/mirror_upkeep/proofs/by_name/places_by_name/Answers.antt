-- The places of sorted names.
use Rattle.std.proofs.Common.{List, map, ap, ◌∙◌}
use Rattle.std.proofs.lemmas.Result.{IfOk-weaker}
use Rattle.mirror_upkeep.specs.ByName.{AreByName}
use Rattle.mirror_upkeep.proofs.ByNameLaws.{Named, are_by_name}
use Rattle.mirror_upkeep.proofs.by_name.places_by_name.Goals as goal

pub returns : goal.returns
returns c =
    IfOk-weaker c.places_of.result _ (λ places. AreByName c.args.entries.now places.items)
    (λ places is. are_by_name c.args.entries.now c.in_ok-named.named.items c.sort_by_name.new.named.items places.items c.in_ok-named.ensures c.sort_by_name.ensures.same c.in_ok-sort_by_name.ensures.sorted
    (is ∙ ap (λ (ns : List Named). map (λ (n : Named). n.1) ns) c.as_slice.ensures.value))
    c.places_of.ensures
