-- By the same names in order.
use Rattle.std.proofs.Common.{◌≡◌, ◌∙◌, List, Bor, map, subst, sym}
use Rattle.std.proofs.lemmas.Result.{IfOk-weaker}
use Rattle.std.specs.List.{filter}
use Rattle.std.specs.List.Sorted.{IsPermutation}
use Rattle.std.specs.String.{string_bytes}
use Rattle.mirror_index.specs.Entries.{Text}
use Rattle.mirror_upkeep.specs.Leaving.{is_displaced}
use Rattle.mirror_upkeep.specs.inner.Lent.{lent_text}
use Rattle.mirror_upkeep.proofs.LeavingLaws.{displaced_moved}
use Rattle.mirror_upkeep.proofs.leaving.displaced.Goals as goal

pub returns : goal.returns
returns c =
    IfOk-weaker c.displaced_among.result _ (λ leaving. map string_bytes leaving.items ≡ filter (is_displaced (map string_bytes c.args.names.now)) (map string_bytes c.args.alone.now))
    (λ leaving says. says ∙ displaced_moved (map lent_text c.as_slice.result.now) (map string_bytes c.args.names.now)
    (subst (λ (xs : List (Bor Text)). IsPermutation (map string_bytes c.args.names.now) (map lent_text xs)) (sym c.as_slice.ensures.value) c.in_ok-sorted.ensures.same) (map string_bytes c.args.alone.now))
    c.displaced_among.ensures
