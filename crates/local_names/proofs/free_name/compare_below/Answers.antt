use Rattle.std.proofs.Common.{ℕ, List, [], ◌∷◌, take, length, ap, ◌∙◌}
use Rattle.std.proofs.lemmas.List.{take_rest}
use Rattle.std.specs.Cmp.Lexicographic.{slice_cmp}
use Rattle.std.specs.Ordering.{nat_cmp}
use Rattle.local_names.specs.PlainNames.{slash}
use Rattle.local_names.proofs.OrderLaws.{compared_equal, compared_unequal}
use Rattle.local_names.proofs.free_name.compare_below.Goals as goal

pub returns-in-Equal : goal.returns-in-Equal
returns-in-Equal c =
    compared_equal c.args.name.now c.args.directory.now c.as_bytes-name.result.now c.as_bytes-directory.result.now c.front_of-front.result.now c.cmp.result c.cmp-in-Equal.result
    c.as_bytes-name.ensures.value c.as_bytes-directory.ensures.value c.front_of-front.ensures c.cmp.ensures c.in-Equal.is
    (c.cmp-in-Equal.ensures ∙ ap (λ (x : List ℕ). slice_cmp nat_cmp x (slash ∷ [])) (c.front_of.ensures ∙ ap (take 1) (take_rest c.as_bytes-name.result.now (length c.front_of-front.result.now))))

pub returns-in_default : goal.returns-in_default
returns-in_default c =
    compared_unequal c.args.name.now c.args.directory.now c.as_bytes-name.result.now c.as_bytes-directory.result.now c.front_of-front.result.now c.cmp.result
    c.as_bytes-name.ensures.value c.as_bytes-directory.ensures.value c.front_of-front.ensures c.cmp.ensures c.in_default.not-Equal
