-- What each step of a reading says.
use Rattle.std.proofs.Common.{◌≡◌, ◌≢◌, ◌∙◌, ◌<◌, ◌^◌, ◌==◌, ℕ, Bool, true, false, List, [], ◌∷◌, ◌++◌, Option, Some, None, length, refl, sym, ap, subst, arith}
use Rattle.std.specs.Prelude.{IfSome, MatchBool}
use Rattle.std.proofs.lemmas.Bool.{eqb-true}
use Rattle.mirror_index.specs.Cuts.{Lacks}
use Rattle.mirror_index.specs.Entries.{Entry, IsEntry, Text, entry_line}
use Rattle.mirror_index.specs.Indexes.{IsBad, IsIndex, end_text, last_line}
use Rattle.mirror_index.specs.inner.Steps.{IsAdded, IsMore, MayNot}
use Rattle.mirror_index.proofs.CutLaws.{cut_once, not_cut}
use Rattle.mirror_index.proofs.FieldLaws.{entry_in_line}
use Rattle.mirror_index.proofs.IndexLaws.{last_is}
use Rattle.mirror_index.proofs.ReadLaws.{last_in_line}

pub no_line_bad : (es : List Entry) (rest : Text) → Lacks 10 rest → IsBad es rest
no_line_bad es rest none = record {
  entry = λ e later index some same. not_cut 10 rest (entry_line e) later none same;
  end = λ same. not_cut 10 rest (last_line (length es)) [] none same;
}

pub at_end : (n : ℕ) (rest line after : Text) → rest ≡ line ++ 10 ∷ after → after ≡ [] → line ≡ last_line n → rest ≡ end_text n
at_end n rest line after cut empty is = cut ∙ ap (λ (t : Text). line ++ 10 ∷ t) empty ∙ ap (λ (t : Text). t ++ 10 ∷ []) is

pub cut_short : (es : List Entry) (rest line after : Text) → length es < 2 ^ 64 → Lacks 10 line → rest ≡ line ++ 10 ∷ after → after ≡ [] → line ≢ last_line (length es) → IsBad es rest
cut_short es rest line after small none cut empty other = record {
  entry = λ e later index some same. some ((cut_once 10 (entry_line e) line later after (entry_in_line e) none (sym same ∙ cut)).1 ∙ empty);
  end = λ same. other (cut_once 10 line (last_line (length es)) after [] none (last_in_line (length es) small) (sym cut ∙ same)).0;
}

pub one_more_line : (before after : List Entry) (rest line later : Text) → Lacks 10 line → rest ≡ line ++ 10 ∷ later → later ≢ [] → IsAdded before after line → IsMore before after rest later
one_more_line before after rest line later none cut some added = record {
  entry = added.entry;
  added = added.added;
  index = added.index;
  text = cut ∙ ap (λ (t : Text). t ++ 10 ∷ later) added.is;
  some = some;
  only = λ e l is same.
      let both = cut_once 10 line (entry_line e) later l none (entry_in_line e) (sym cut ∙ same) in
      (added.only e is both.0, sym both.1);
}

pub may_not_bad : (es : List Entry) (rest line later : Text) → length es < 2 ^ 64 → Lacks 10 line → rest ≡ line ++ 10 ∷ later → later ≢ [] → MayNot es line → IsBad es rest
may_not_bad es rest line later small none cut some not_one = record {
  entry = λ e l index more same. not_one e index (cut_once 10 line (entry_line e) later l none (entry_in_line e) (sym cut ∙ same)).0;
  end = λ same. some (cut_once 10 line (last_line (length es)) later [] none (last_in_line (length es) small) (sym cut ∙ same)).1;
}

pub at_true : (P Q : Type 0) (b : Bool) → b ≡ true → MatchBool b P Q → P
at_true P Q true e holds = holds
at_true P Q false e holds = cc

pub at_false : (P Q : Type 0) (b : Bool) → b ≡ false → MatchBool b P Q → Q
at_false P Q true e holds = cc
at_false P Q false e holds = holds

pub none_left : (xs : Text) → (length xs == 0) ≡ true → xs ≡ []
none_left [] e = refl
none_left (x ∷ xs) e = absurd (omega (arith, eqb-true (length (x ∷ xs)) 0 e))

pub some_left : (xs : Text) → (length xs == 0) ≡ false → xs ≢ []
some_left [] e same = cc
some_left (x ∷ xs) e same = cc

pub some_at : (P : Entry → Type 0) (o : Option Entry) (e : Entry) → o ≡ Some e → IfSome o P → P e
some_at P None e is holds = cc
some_at P (Some x) e is holds = let same : x ≡ e = cc in subst P same holds

-- what adding the entry of a line does
pub added_by : (before after : List Entry) (line : Text) (entry : Entry) (b : Bool) → line ≡ entry_line entry → ((e : Entry) → IsEntry e → line ≡ entry_line e → e ≡ entry)
    → MatchBool b ((after ≡ before ++ entry ∷ []) × IsIndex after) ((after ≡ before) × (¬ IsIndex (before ++ entry ∷ []))) → MatchBool b (IsAdded before after line) ((after ≡ before) × MayNot before line)
added_by before after line entry true is only says = record { entry = entry; added = says.0; index = says.1; is = is; only = only }
added_by before after line entry false is only says =
    (says.0, λ e index same. says.1 (subst (λ (x : Entry). IsIndex (before ++ x ∷ [])) (only e (last_is before e index) same) index))
