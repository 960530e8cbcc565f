-- What is read of an index, line by line, is what was written.
use Rattle.std.proofs.Common.{◌≡◌, ◌≢◌, ◌<◌, ◌+◌, ◌^◌, ℕ, List, [], ◌∷◌, ◌++◌, length, refl, sym, ◌∙◌, ap, subst, arith, append_assoc, codes}
use Rattle.std.proofs.lemmas.List.{append-nil, length-append}
use Rattle.std.proofs.Math.Seq.{get_or-append_seam}
use Rattle.std.specs.Fmt.{decimal}
use Rattle.mirror_index.specs.Cuts.{Lacks}
use Rattle.mirror_index.specs.Entries.{Entry, IsEntry, Text, entry_line}
use Rattle.mirror_index.specs.Indexes.{IsBad, IsFirstBad, IsIndex, IsOther, end_text, first_line, index_text, last_line, lines}
use Rattle.mirror_index.specs.inner.Steps.{GoesOn, IsMore, IsRead}
use Rattle.mirror_index.proofs.CutLaws.{cut_once, lacks-append, lacks_by, not_cut}
use Rattle.mirror_index.proofs.FieldLaws.{decimal_in_line, entry_in_line}
use Rattle.mirror_index.proofs.IndexLaws.{front_is}

pub first_in_line : Lacks 10 first_line
first_in_line = lacks_by 10 first_line refl

pub last_in_line : (n : ℕ) → n < 2 ^ 64 → Lacks 10 (last_line n)
last_in_line n small = lacks-append 10 (codes "end ") (decimal n) (lacks_by 10 (codes "end ") refl) (decimal_in_line n small)

pub few_fit : (es : List Entry) → IsIndex es → length es < 2 ^ 64
few_fit es index = let few = index.few in omega arith

some_text : (xs : List ℕ) (y : ℕ) (ys : List ℕ) → xs ++ y ∷ ys ≢ []
some_text [] y ys same = cc
some_text (x ∷ xs) y ys same = cc

some_lines : (es : List Entry) (n : ℕ) → lines es (end_text n) ≢ []
some_lines [] n same = some_text (last_line n) 10 [] same
some_lines (e ∷ es) n same = some_text (entry_line e) 10 (lines es (end_text n)) same

lines_push : (es : List Entry) (e : Entry) (later : Text) → lines (es ++ e ∷ []) later ≡ lines es (entry_line e ++ 10 ∷ later)
lines_push [] e later = refl
lines_push (x ∷ es) e later = ap (λ (t : Text). entry_line x ++ 10 ∷ t) (lines_push es e later)

-- another first line
pub other_first : (bytes line later : Text) → Lacks 10 line → bytes ≡ line ++ 10 ∷ later → line ≢ first_line → IsOther bytes
other_first bytes line later none cut differs rest is = differs (cut_once 10 line first_line later rest none first_in_line (sym cut ∙ is)).0

pub no_line : (bytes : Text) → Lacks 10 bytes → IsOther bytes
no_line bytes none rest is = not_cut 10 bytes first_line rest none is

no_entries : IsIndex []
no_entries = record { each = λ k d within. absurd (omega arith); order = λ k d within. absurd (omega arith); few = omega arith }

-- at the first line
pub begun : (bytes rest : Text) → bytes ≡ first_line ++ 10 ∷ rest → IsRead bytes [] rest
begun bytes rest is = record {
  text = is;
  good = no_entries;
  back = λ all index whole. record { later = all; all_of = refl; text = (cut_once 10 first_line first_line rest (lines all (end_text (length all))) first_in_line first_in_line (sym is ∙ whole)).1 };
}

entry_after : (before : List Entry) (t : Entry) (ts all : List Entry) → IsIndex all → all ≡ before ++ t ∷ ts → IsEntry t
entry_after before t ts all index is =
    let whole : IsIndex (before ++ t ∷ ts) = subst IsIndex is index in
    subst IsEntry (get_or-append_seam before t ts t) (whole.each (length before) t (omega (arith, length-append before (t ∷ ts))))

-- after one more entry
pub gone_on : (bytes : Text) (before after : List Entry) (rest later : Text) → IsRead bytes before rest → IsMore before after rest later → IsRead bytes after later
gone_on bytes before after rest later read more = subst (λ (es : List Entry). IsRead bytes es later) (sym more.added) record {
  text = read.text ∙ ap (λ (t : Text). first_line ++ 10 ∷ lines before t) more.text ∙ ap (λ (t : Text). first_line ++ 10 ∷ t) (sym (lines_push before more.entry later));
  good = subst IsIndex more.added more.index;
  back = λ all index whole. let known = read.back all index whole in go all index known.later known.all_of known.text;
}
  where
    go : (all : List Entry) → IsIndex all → (left : List Entry) → all ≡ before ++ left → rest ≡ lines left (end_text (length all)) → GoesOn (before ++ more.entry ∷ []) later all
    go all index [] is text =
        absurd (more.some (cut_once 10 (entry_line more.entry) (last_line (length all)) later [] (entry_in_line more.entry) (last_in_line (length all) (few_fit all index)) (sym more.text ∙ text)).1)
    go all index (t ∷ ts) is text =
        let one = more.only t (lines ts (end_text (length all))) (entry_after before t ts all index is) text in
        record {
          later = ts;
          all_of = is ∙ ap (λ (e : Entry). before ++ e ∷ ts) one.0 ∙ sym (append_assoc before (more.entry ∷ []) ts);
          text = sym one.1;
        }

-- after the last line
pub whole_text : (bytes : Text) (before : List Entry) (rest : Text) → IsRead bytes before rest → rest ≡ end_text (length before) → bytes ≡ index_text before
whole_text bytes before rest read end = read.text ∙ ap (λ (t : Text). first_line ++ 10 ∷ lines before t) end

pub whole_back : (bytes : Text) (before : List Entry) (rest : Text) → IsRead bytes before rest → rest ≡ end_text (length before)
    → (all : List Entry) → IsIndex all → bytes ≡ index_text all → before ≡ all
whole_back bytes before rest read end all index whole = let known = read.back all index whole in go known.later known.all_of known.text
  where
    go : (left : List Entry) → all ≡ before ++ left → rest ≡ lines left (end_text (length all)) → before ≡ all
    go [] is text = sym (is ∙ append-nil before)
    go (t ∷ ts) is text =
        absurd (some_lines ts (length all) (cut_once 10 (entry_line t) (last_line (length before)) (lines ts (end_text (length all))) [] (entry_in_line t) (last_in_line (length before) (few_fit before read.good)) (sym text ∙ end)).1)

-- at a bad line
pub not_whole : (bytes : Text) (before : List Entry) (rest : Text) → IsRead bytes before rest → IsBad before rest → (all : List Entry) → IsIndex all → bytes ≢ index_text all
not_whole bytes before rest read bad all index whole = let known = read.back all index whole in go known.later known.all_of known.text
  where
    go : (left : List Entry) → all ≡ before ++ left → rest ≡ lines left (end_text (length all)) → ⊥
    go [] is text = bad.end (text ∙ ap (λ (es : List Entry). end_text (length es)) (is ∙ append-nil before))
    go (t ∷ ts) is text =
        bad.entry t (lines ts (end_text (length all))) (front_is (before ++ t ∷ []) ts (subst IsIndex (is ∙ sym (append_assoc before (t ∷ []) ts)) index)) (some_lines ts (length all)) text

pub first_bad : (bytes : Text) (before : List Entry) (rest : Text) (n : ℕ) → n ≡ length before + 2 → IsRead bytes before rest → IsBad before rest → IsFirstBad bytes n
first_bad bytes before rest n at read bad = record { entries = before; rest = rest; is = read.text; good = read.good; line = at; bad = bad }

pub shorter : (before after : List Entry) (rest later : Text) → IsMore before after rest later → length later < length rest
shorter before after rest later more = let same = ap length more.text in omega (arith, length-append (entry_line more.entry) (10 ∷ later))

-- lines before a text
pub lines_before : (es : List Entry) (after : Text) → lines es after ≡ lines es [] ++ after
lines_before [] after = refl
lines_before (e ∷ es) after = ap (λ (t : Text). entry_line e ++ 10 ∷ t) (lines_before es after) ∙ sym (append_assoc (entry_line e) (10 ∷ lines es []) after)
