use Rattle.std.proofs.Common.{◌≡◌, ◌-◌, true, get_or, inl, inr, sym, ap, ◌∙◌, subst, arith}
use Rattle.std.proofs.lemmas.Bool.{both_ways, cases_lt}
use Rattle.std.proofs.lemmas.List.{get_or_read}
use Rattle.std.specs.Cmp.Lexicographic.{slice_cmp}
use Rattle.std.specs.Ordering.{nat_cmp, is_lt}
use Rattle.address.specs.AddressOrder.{IsBefore}
use Rattle.local_names.proofs.OrderLaws.{before_trans}
use Rattle.local_names.proofs.naming.ascend.Goals as goal

pub loop-i-preserved : goal.loop-i-preserved
loop-i-preserved c =
    let pages = c.args.pages.now in
    let i = c.loop-i.i in
    λ a b d less within.
    let first : c.as_str.result.now ≡ get_or pages (i - 1) d = c.as_str.ensures.value ∙ get_or_read pages (i - 1) c.index-pages-i.result (omega arith) c.index-pages-i.is d in
    let second : c.as_str-in-loop-i.result.now ≡ get_or pages i d = c.as_str-in-loop-i.ensures.value ∙ get_or_read pages i c.index-pages-i-in-loop-i.result (omega arith) c.index-pages-i-in-loop-i.is d in
    let this : IsBefore (get_or pages (i - 1) d) (get_or pages i d) =
    ap (λ x. is_lt (slice_cmp nat_cmp x (get_or pages i d))) (sym first) ∙ ap (λ y. is_lt (slice_cmp nat_cmp c.as_str.result.now y)) (sym second) ∙ ap is_lt (sym c.cmp.ensures) ∙ sym c.is_lt.ensures ∙ c.if-not-is_lt.false in
    elim (cases_lt b i) [
      | inl early ↦ c.loop-i.invariant a b d less early
      | inr last ↦ (
          let at : i ≡ b = omega (arith, last, within) in
          subst (λ j. IsBefore (get_or pages a d) (get_or pages j d)) at
          (elim (cases_lt a (i - 1)) [
            | inl far ↦ before_trans (get_or pages a d) (get_or pages (i - 1) d) (get_or pages i d) (c.loop-i.invariant a (i - 1) d far (omega arith)) this
            | inr near ↦ (let here : i - 1 ≡ a = omega (arith, near, less, at) in subst (λ j. IsBefore (get_or pages j d) (get_or pages i d)) here this)
          ]))
    ]

pub returns-then-not-is_lt : goal.returns-then-not-is_lt
returns-then-not-is_lt c =
    let pages = c.args.pages.now in
    let i = c.loop-i.i in (
      λ e. cc,
      λ up.
          let d = c.index-pages-i.result in
          let first : c.as_str.result.now ≡ get_or pages (i - 1) d = c.as_str.ensures.value ∙ get_or_read pages (i - 1) c.index-pages-i.result (omega arith) c.index-pages-i.is d in
          let second : c.as_str-in-loop-i.result.now ≡ get_or pages i d = c.as_str-in-loop-i.ensures.value ∙ get_or_read pages i c.index-pages-i-in-loop-i.result (omega arith) c.index-pages-i-in-loop-i.is d in
          let before : is_lt (slice_cmp nat_cmp (get_or pages (i - 1) d) (get_or pages i d)) ≡ true = up (i - 1) i d (omega arith) (omega arith) in
          absurd (both_ways c.is_lt.result c.if-not-is_lt.true
          (c.is_lt.ensures ∙ ap is_lt c.cmp.ensures ∙ ap (λ x. is_lt (slice_cmp nat_cmp x c.as_str-in-loop-i.result.now)) first ∙ ap (λ y. is_lt (slice_cmp nat_cmp (get_or pages (i - 1) d) y)) second ∙ before)),
    )
