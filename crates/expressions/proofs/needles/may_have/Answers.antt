-- The needles are those of the list.
use Rattle.std.proofs.Common.{◌≡◌, ◌<◌, ℕ, true, length, subst, sym, arith}
use Rattle.std.proofs.lemmas.List.{length-map}
use Rattle.regex_literal.specs.Find.{OccursAt, needle_at}
use Rattle.expressions.specs.inner.Needles.{MayHave, needle_lists}
use Rattle.expressions.proofs.needles.may_have.Goals as goal

pub returns-in-Some : goal.returns-in-Some
returns-in-Some c =
    let text = c.args.text.now in
    let list = c.in-Some.needles.items in
    let says = subst (λ xs. (n k : ℕ) → n < length xs → OccursAt text (needle_at (needle_lists xs) n) k → c.has_some.result ≡ true) c.as_slice.ensures.value c.has_some.ensures in
    subst (λ o. MayHave o text c.has_some.result) (sym c.in-Some.is) (λ has. says has.0 has.1 (omega (arith, has.2, length-map list (λ needle. needle.items))) has.3)
