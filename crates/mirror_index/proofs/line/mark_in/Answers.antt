-- A mark that was written is read back: no digit is an `@`.
use Rattle.std.proofs.Common.{◌≡◌, ◌∷◌, true, [], refl, sym, ◌∙◌, ap, subst, drop, take, arith}
use Rattle.std.specs.Prelude.{nat_eq}
use Rattle.std.specs.Cmp.Lexicographic.{pointwise}
use Rattle.std.proofs.lemmas.Bool.Decides.{nat_tests}
use Rattle.hex.specs.Hex.{lower_digits}
use Rattle.mirror_index.specs.Cuts.{Lacks}
use Rattle.mirror_index.specs.Entries.{Text}
use Rattle.mirror_index.specs.declared.entry.Mark.TheVariants.{Changed, Digest}
use Rattle.mirror_index.proofs.CutLaws.{lacks_by}
use Rattle.mirror_index.proofs.FieldLaws.{encoded_lacks}
use Rattle.mirror_index.proofs.line.mark_in.Goals as goal

pub returns-in-Some : goal.returns-in-Some
returns-in-Some c (Changed n) is same =
    ap Changed (c.number_in.ensures n is (c.in-Some.ensures.cases.1 ∙ ap (λ (f : Text). drop 1 f) same))
returns-in-Some c (Digest d) is same =
    absurd (no_mark c.args.field.now (subst (λ (f : Text). Lacks 64 f) (sym same) (encoded_lacks 64 (lacks_by 64 lower_digits refl) (omega arith) d)) c.in-Some.ensures.cases.0)
  where
    no_mark : (field : Text) → Lacks 64 field → pointwise nat_eq (take 1 field) (64 ∷ []) ≡ true → ⊥
    no_mark [] none is = cc
    no_mark (x ∷ xs) none is = none.0 (grind (arith, nat_tests))
