-- By the same names in order.
use Rattle.std.proofs.Common.{◌≡◌, ◌∙◌, List, Bor, map, subst, sym}
use Rattle.std.proofs.lemmas.Result.{IfOk-weaker}
use Rattle.std.specs.List.{filter}
use Rattle.std.specs.List.Sorted.{IsPermutation}
use Rattle.std.specs.String.{string_bytes}
use Rattle.mirror_index.specs.Entries.{Text}
use Rattle.mirror_upkeep.specs.Leaving.{is_renewed, originals}
use Rattle.mirror_upkeep.specs.inner.Lent.{lent_text}
use Rattle.mirror_upkeep.proofs.LeavingLaws.{outdated_moved}
use Rattle.mirror_upkeep.proofs.leaving.outdated.Goals as goal

pub returns : goal.returns
returns c =
    IfOk-weaker c.outdated_among.result _ (λ leaving. map string_bytes leaving.items ≡ originals c.args.backs_up (map string_bytes c.args.names.now) (filter (is_renewed (map string_bytes c.args.renewed.now)) c.args.earlier.now))
    (λ leaving says. says ∙ outdated_moved (map lent_text c.as_slice.result.now) (map string_bytes c.args.names.now) (map lent_text c.as_slice-2.result.now) (map string_bytes c.args.renewed.now)
    (subst (λ (xs : List (Bor Text)). IsPermutation (map string_bytes c.args.names.now) (map lent_text xs)) (sym c.as_slice.ensures.value) c.in_ok-sorted.ensures.same)
    (subst (λ (xs : List (Bor Text)). IsPermutation (map string_bytes c.args.renewed.now) (map lent_text xs)) (sym c.as_slice-2.ensures.value) c.in_ok-renewed.ensures.same) c.args.backs_up c.args.earlier.now)
    c.outdated_among.ensures
