-- What is read of a journal, line by line.
use Rattle.std.proofs.Common.{◌≡◌, ◌≢◌, ◌∙◌, ◌+◌, ◌<◌, ◌≤◌, ◌^◌, ◌⊎◌, inl, inr, ℕ, suc, Bool, true, false, List, [], ◌∷◌, ◌++◌, Option, Some, None, Vec, Global, length, drop, map, refl, sym, ap, subst, arith, append_assoc, nat_eq}
use Rattle.std.specs.Prelude.{All, IfSome, MatchBool}
use Rattle.std.specs.Bool.{Decides}
use Rattle.std.specs.List.{starts_with}
use Rattle.std.proofs.lemmas.Bool.Decides.{Decides-eqb}
use Rattle.std.proofs.lemmas.List.{append-nil, length-append, length-map, map-append}
use Rattle.std.proofs.lemmas.List.Elements.{All-cons, All-head, All-tail}
use Rattle.std.proofs.Math.ListN.{get_or-append}
use Rattle.std.proofs.lemmas.Slice.Eq.{starts_is}
use Rattle.mirror_index.specs.Cuts.{Lacks}
use Rattle.mirror_index.specs.Entries.{Entry, IsEntry, Text, entry_line, text_line}
use Rattle.mirror_index.proofs.CutLaws.{cut_once, not_cut}
use Rattle.mirror_index.proofs.FieldLaws.{entry_in_line}
use Rattle.mirror_index.proofs.TextLaws.{some_entry_line, some_text_line, text_in_line, text_or_entry}
use Rattle.mirror_upkeep.specs.Journals.{Answer, AreWritten, Begins, HasUnwritten, IsFirstBad, IsJournal, IsOther, IsRunOf, IsWritten, Page, Said, StartsWith, answers_of, lines, pages_of, said_line}
use Rattle.mirror_upkeep.specs.Latest.{ArePages, IsWholeIndexOf}
use Rattle.mirror_upkeep.specs.inner.Reading.{AreIn, GoesOn, HasRead, Holds, IsAdded, IsAfterFirst, IsBadIn, IsFaultIn, IsFaultOfFirst, IsSaidIn, ReadIn, SaysNothing}
use Rattle.mirror_upkeep.specs.declared.reading.Lines.{Lines}
use Rattle.mirror_upkeep.specs.declared.reading.StoppedRun.{StoppedRun}
use Rattle.mirror_upkeep.specs.declared.reading.JournalFault.{JournalFault}
use Rattle.mirror_upkeep.specs.declared.reading.JournalFault.TheVariants.{Entry as EntryFault, Line, Memory, Starts, Version}

abbrev pub items : Vec ℕ Global → Text
items v = v.items

-- ---- fronts of texts

pub begins-Decides : (text front : Text) → Decides (starts_with nat_eq text front) (Begins text front)
begins-Decides text front =
    let is = starts_is Decides-eqb text front (starts_with nat_eq text front) refl in
    (λ yes. (drop (length front) text, is.0 yes), λ begins. is.1 begins.0 begins.1)

cancel : (front one other : Text) → front ++ one ≡ front ++ other → one ≡ other
cancel [] one other same = same
cancel (x ∷ front) one other same = let rest : front ++ one ≡ front ++ other = cc in cancel front one other rest

-- of two fronts of a text one is a front of the other
pub one_begins : (a b x y : Text) → a ++ x ≡ b ++ y → Begins b a ⊎ Begins a b
one_begins [] b x y same = inl (b, refl)
one_begins (z ∷ a) [] x y same = inr (z ∷ a, refl)
one_begins (z ∷ a) (w ∷ b) x y same =
    let first : z ≡ w = cc in
    let rest : a ++ x ≡ b ++ y = cc in
    elim (one_begins a b x y rest) [
      | inl is ↦ inl (is.0, (let tail : b ≡ a ++ is.0 = is.1 in cc))
      | inr is ↦ inr (is.0, (let tail : a ≡ b ++ is.0 = is.1 in cc))
    ]

-- ---- lines

some_text : (xs : Text) (y : ℕ) (ys : Text) → xs ++ y ∷ ys ≢ []
some_text [] y ys same = cc
some_text (x ∷ xs) y ys same = cc

lines_push : (said : List Said) (s : Said) (later : Text) → lines (said ++ s ∷ []) later ≡ lines said (said_line s ++ 10 ∷ later)
lines_push [] s later = refl
lines_push (x ∷ said) s later = ap (λ (t : Text). said_line x ++ 10 ∷ t) (lines_push said s later)

lines_append : (said : List Said) (rest later : Text) → lines said rest ++ later ≡ lines said (rest ++ later)
lines_append [] rest later = refl
lines_append (s ∷ said) rest later =
    append_assoc (said_line s) (10 ∷ lines said rest) later ∙ ap (λ (t : Text). said_line s ++ 10 ∷ t) (lines_append said rest later)

said_in_line : (s : Said) → Lacks 10 (said_line s)
said_in_line (Page e) = entry_in_line e
said_in_line (Answer t) = text_in_line t

some_line : (s : Said) → 1 ≤ length (said_line s)
some_line (Page e) = some_entry_line e
some_line (Answer t) = some_text_line t

-- ---- pages and answers

pages_append : (one other : List Said) → pages_of (one ++ other) ≡ pages_of one ++ pages_of other
pages_append [] other = refl
pages_append (Page e ∷ one) other = ap (λ (es : List Entry). e ∷ es) (pages_append one other)
pages_append (Answer t ∷ one) other = pages_append one other

answers_append : (one other : List Said) → answers_of (one ++ other) ≡ answers_of one ++ answers_of other
answers_append [] other = refl
answers_append (Page e ∷ one) other = answers_append one other
answers_append (Answer t ∷ one) other = ap (λ (ts : List Text). t ∷ ts) (answers_append one other)

said_count : (said : List Said) → length said ≡ length (pages_of said) + length (answers_of said)
said_count [] = refl
said_count (Page e ∷ said) = omega (arith, said_count said)
said_count (Answer t ∷ said) = omega (arith, said_count said)

holds_count : (said : List Said) (read : Lines) → Holds said read → length said ≡ length read.pages.items + length read.answers.items
holds_count said read holds =
    let pages : length read.pages.items ≡ length (pages_of said) = ap (λ (es : List Entry). length es) holds.pages in
    let answers : length read.answers.items ≡ length (answers_of said) = sym (length-map read.answers.items items) ∙ ap (λ (ts : List Text). length ts) holds.answers in
    omega (arith, said_count said)

pub holds_page : (said : List Said) (before after : Lines) (e : Entry) → after.pages.items ≡ before.pages.items ++ e ∷ [] → after.answers.items ≡ before.answers.items → Holds said before
    → Holds (said ++ Page e ∷ []) after
holds_page said before after e added same holds = record {
  pages = added ∙ ap (λ (es : List Entry). es ++ e ∷ []) holds.pages ∙ sym (pages_append said (Page e ∷ []));
  answers = ap (map items) same ∙ holds.answers ∙ sym (append-nil (answers_of said)) ∙ sym (answers_append said (Page e ∷ []));
}

pub holds_answer : (said : List Said) (before after : Lines) (v : Vec ℕ Global) → after.answers.items ≡ before.answers.items ++ v ∷ [] → after.pages.items ≡ before.pages.items → Holds said before
    → Holds (said ++ Answer v.items ∷ []) after
holds_answer said before after v added same holds = record {
  pages = same ∙ holds.pages ∙ sym (append-nil (pages_of said)) ∙ sym (pages_append said (Answer v.items ∷ []));
  answers =
      ap (map items) added ∙ map-append items before.answers.items (v ∷ []) ∙ ap (λ (ts : List Text). ts ++ v.items ∷ []) holds.answers ∙ sym (answers_append said (Answer v.items ∷ []));
}

-- ---- a line

pub some_at : {A : Type 0} (P : A → Type 0) (o : Option A) (x : A) → o ≡ Some x → IfSome o P → P x
some_at P None x is holds = cc
some_at P (Some y) x is holds = let same : y ≡ x = cc in subst P same holds

pub page_added : (before after : Lines) (line : Text) (e : Entry) → line ≡ entry_line e → ((x : Entry) → IsEntry x → line ≡ entry_line x → Some e ≡ Some x)
    → ((said : List Said) → Holds said before → Holds (said ++ Page e ∷ []) after) → IsAdded before after line
page_added before after line e is only holds = record { added = Page e; holds = holds; is = is; only = same }
  where
    same : (s : Said) → IsWritten s → line ≡ said_line s → Page e ≡ s
    same (Page x) entry of = let found : Some e ≡ Some x = only x entry of in let one : e ≡ x = cc in ap Page one
    same (Answer t) any of = absurd (text_or_entry t e (sym of ∙ is))

pub answer_added : (before after : Lines) (line : Text) (v : Vec ℕ Global) → line ≡ text_line v.items → ((t : Text) → line ≡ text_line t → Some v.items ≡ Some t)
    → ((said : List Said) → Holds said before → Holds (said ++ Answer v.items ∷ []) after) → IsAdded before after line
answer_added before after line v is only holds = record { added = Answer v.items; holds = holds; is = is; only = same }
  where
    same : (s : Said) → IsWritten s → line ≡ said_line s → Answer v.items ≡ s
    same (Page x) entry of = absurd (text_or_entry v.items x (sym is ∙ of))
    same (Answer t) any of = let found : Some v.items ≡ Some t = only t of in let one : v.items ≡ t = cc in ap Answer one

pub says_nothing : (line : Text) → ((x : Entry) → IsEntry x → line ≡ entry_line x → None ≡ Some x) → ((t : Text) → line ≡ text_line t → None ≡ Some t) → SaysNothing line
says_nothing line no_page no_answer (Page x) entry of = let same : None ≡ Some x = no_page x entry of in cc
says_nothing line no_page no_answer (Answer t) any of = let same : None ≡ Some t = no_answer t of in cc

-- ---- the loop

nothing_in : (text : Text) → ReadIn text [] text
nothing_in text = record {
  is = refl;
  count = omega arith;
  back = λ all later each same. record { left = all; are = refl; text = same };
}

pub nothing_read : (text : Text) (read : Lines) → read.pages.items ≡ [] → read.answers.items ≡ [] → HasRead text read text
nothing_read text read pages answers = record { said = []; holds = record { pages = pages; answers = ap (map items) answers }; in_text = nothing_in text }

said_after : (before : List Said) (t : Said) (ts all : List Said) → All IsWritten all → all ≡ before ++ t ∷ ts → IsWritten t
said_after before t ts all each are = go before (subst (All IsWritten) are each)
  where
    go : (xs : List Said) → All IsWritten (xs ++ t ∷ ts) → IsWritten t
    go [] is = All-head IsWritten t ts is
    go (x ∷ xs) is = go xs (All-tail IsWritten x (xs ++ t ∷ ts) is)

one_in : (text rest line after : Text) (said : List Said) (s : Said) → ReadIn text said rest → Lacks 10 line → rest ≡ line ++ 10 ∷ after → line ≡ said_line s
    → ((x : Said) → IsWritten x → line ≡ said_line x → s ≡ x) → ReadIn text (said ++ s ∷ []) after
one_in text rest line after said s read none cut is only = record {
  is = read.is ∙ ap (lines said) (cut ∙ ap (λ (l : Text). l ++ 10 ∷ after) is) ∙ sym (lines_push said s after);
  count =
      let before = read.count in
      let longer : length (said ++ s ∷ []) ≡ length said + 1 = length-append said (s ∷ []) in
      let long : length rest ≡ length line + suc (length after) = ap (λ (t : Text). length t) cut ∙ length-append line (10 ∷ after) in
      let some : 1 ≤ length line = subst (λ (t : Text). 1 ≤ length t) (sym is) (some_line s) in
      omega arith;
  back = λ all later each same. let known = read.back all later each same in go all later each known.left known.are known.text;
}
  where
    go : (all : List Said) (later : Text) → All IsWritten all → (left : List Said) → all ≡ said ++ left → rest ++ later ≡ lines left [] → GoesOn (said ++ s ∷ []) after later all
    go all later each [] are same = absurd (some_text line 10 (after ++ later) (sym (append_assoc line (10 ∷ after) later) ∙ ap (λ (t : Text). t ++ later) (sym cut) ∙ same))
    go all later each (t ∷ ts) are same =
        let both = cut_once 10 line (said_line t) (after ++ later) (lines ts []) none (said_in_line t) (sym (append_assoc line (10 ∷ after) later) ∙ ap (λ (x : Text). x ++ later) (sym cut) ∙ same) in
        let one : s ≡ t = only t (said_after said t ts all each are) both.0 in
        record {
          left = ts;
          are = are ∙ ap (λ (x : Said). said ++ x ∷ ts) (sym one) ∙ sym (append_assoc said (s ∷ []) ts);
          text = both.1;
        }

-- whether what a line says was added
abbrev pub Adds : Bool → Lines → Lines → Text → Type 0
Adds added before now line = MatchBool added (IsAdded before now line) ((now ≡ before) × SaysNothing line)

is_added : (before now : Lines) (line : Text) (b : Bool) → b ≡ true → Adds b before now line → IsAdded before now line
is_added before now line true is says = says
is_added before now line false is says = cc

not_added : (before now : Lines) (line : Text) (b : Bool) → b ≡ false → Adds b before now line → (now ≡ before) × SaysNothing line
not_added before now line true is says = cc
not_added before now line false is says = says

pub one_read : (text rest line after : Text) (before now : Lines) (b : Bool) → HasRead text before rest → Lacks 10 line → rest ≡ line ++ 10 ∷ after → b ≡ true → Adds b before now line
    → HasRead text now after
one_read text rest line after before now b read none cut adds says = let more = is_added before now line b adds says in record {
  said = read.said ++ more.added ∷ [];
  holds = more.holds read.said read.holds;
  in_text = one_in text rest line after read.said more.added read.in_text none cut more.is more.only;
}

pub all_read : (text rest : Text) (read : Lines) → HasRead text read rest → Lacks 10 rest → IsSaidIn text read
all_read text rest read has none = record {
  said = has.said;
  holds = has.holds;
  in_text = record {
    tail = rest;
    is = has.in_text.is;
    cut = none;
    back = λ all later each same. let known = has.in_text.back all later each same in (known.left, known.are);
  };
}

bad_in : (text rest line after : Text) (said : List Said) (n : ℕ) → ReadIn text said rest → Lacks 10 line → rest ≡ line ++ 10 ∷ after → n ≡ length said + 2 → SaysNothing line → IsBadIn text n
bad_in text rest line after said n read none cut at nothing = record {
  said = said;
  rest = rest;
  is = read.is;
  line = at;
  whole = λ lacks. not_cut 10 rest line after lacks cut;
  bad = λ s later written same. nothing s written (cut_once 10 line (said_line s) after later none (said_in_line s) (sym cut ∙ same)).0;
  never = λ all later each same. let known = read.back all later each same in go all later each known.left known.are known.text;
}
  where
    go : (all : List Said) (later : Text) → All IsWritten all → (left : List Said) → all ≡ said ++ left → rest ++ later ≡ lines left [] → ⊥
    go all later each [] are same = some_text line 10 (after ++ later) (sym (append_assoc line (10 ∷ after) later) ∙ ap (λ (t : Text). t ++ later) (sym cut) ∙ same)
    go all later each (t ∷ ts) are same =
        nothing t (said_after said t ts all each are) (cut_once 10 line (said_line t) (after ++ later) (lines ts []) none (said_in_line t) (sym (append_assoc line (10 ∷ after) later) ∙ ap (λ (x : Text). x ++ later) (sym cut) ∙ same)).0

pub bad_read : (text rest line after : Text) (before now : Lines) (b : Bool) (n : ℕ) → HasRead text before rest → Lacks 10 line → rest ≡ line ++ 10 ∷ after → b ≡ false → Adds b before now line
    → n ≡ length now.pages.items + length now.answers.items + 2 → IsBadIn text n
bad_read text rest line after before now b n has none cut adds says at =
    let stays = not_added before now line b adds says in
    let count : length now.pages.items + length now.answers.items ≡ length has.said = ap (λ (read : Lines). length read.pages.items + length read.answers.items) stays.0 ∙ sym (holds_count has.said before has.holds) in
    bad_in text rest line after has.said n has.in_text none cut (at ∙ ap (λ (k : ℕ). k + 2) count) stays.1

pub line_fits : (text rest line : Text) (before now : Lines) (b : Bool) → HasRead text before rest → length text < 2 ^ 64 → b ≡ false → Adds b before now line
    → length now.pages.items + length now.answers.items + 2 < 2 ^ 64
line_fits text rest line before now b has small adds says =
    let stays = not_added before now line b adds says in
    let count : length now.pages.items + length now.answers.items ≡ length has.said = ap (λ (read : Lines). length read.pages.items + length read.answers.items) stays.0 ∙ sym (holds_count has.said before has.holds) in
    let few = has.in_text.count in
    omega arith

-- ---- the whole

nothing_said_in : (said : List Said) (tail : Text) → [] ≡ lines said tail → said ≡ []
nothing_said_in [] tail is = refl
nothing_said_in (s ∷ said) tail is = absurd (some_text (said_line s) 10 (lines said tail) (sym is))

is_journal : (bytes first rest : Text) (said : List Said) → IsAfterFirst bytes first rest → AreIn rest said → IsJournal bytes first said
is_journal bytes first rest said (inl is) are = inl (record { tail = are.tail; text = is ∙ ap (λ (t : Text). first ++ t) are.is; cut = are.cut })
is_journal bytes first rest said (inr is) are = inr (nothing_said_in said are.tail (sym is.0 ∙ are.is), is.1)

run_of : (said : List Said) (read : Lines) (run : StoppedRun) → Holds said read → IsWholeIndexOf read.pages.items run.pages → run.answers.items ≡ read.answers.items → IsRunOf said run
run_of said read run holds whole same = record {
  pages = subst (λ (es : List Entry). IsWholeIndexOf es run.pages) holds.pages whole;
  answers = ap (map items) same ∙ holds.answers;
}

-- the run of which this journal is
pub is_run : (bytes first rest : Text) (read : Lines) (run : StoppedRun) → IsAfterFirst bytes first rest → IsSaidIn rest read → IsWholeIndexOf read.pages.items run.pages
    → run.answers.items ≡ read.answers.items → (said : List Said) × IsJournal bytes first said × IsRunOf said run
is_run bytes first rest read run after are whole same = (are.said, is_journal bytes first rest are.said after are.in_text, run_of are.said read run are.holds whole same)

-- what is left of a journal that was cut
rest_of : (bytes first rest : Text) (all : List Said) → IsAfterFirst bytes first rest → Begins (first ++ lines all []) bytes → (later : Text) × (rest ++ later ≡ lines all [])
rest_of bytes first rest all (inl is) begins =
    (begins.0, cancel first (rest ++ begins.0) (lines all []) (sym (append_assoc first rest begins.0) ∙ ap (λ (t : Text). t ++ begins.0) (sym is) ∙ sym begins.1))
rest_of bytes first rest all (inr is) begins = (lines all [], ap (λ (t : Text). t ++ lines all []) is.0)

front_written : (read left all : List Said) → all ≡ read ++ left → AreWritten all → AreWritten read
front_written read left all is written =
    let long : length (pages_of all) ≡ length (pages_of read) + length (pages_of left) =
    ap (λ (said : List Said). length (pages_of said)) is ∙ ap (λ (es : List Entry). length es) (pages_append read left) ∙ length-append (pages_of read) (pages_of left) in
    let few = written.few in
    record { each = go read (subst (All IsWritten) is written.each); few = omega arith }
  where
    go : (xs : List Said) → All IsWritten (xs ++ left) → All IsWritten xs
    go xs each k d within = subst IsWritten (get_or-append xs left d k within) (each k d (omega (arith, length-append xs left)))

starts_written : (all read : List Said) → StartsWith all read → AreWritten all → AreWritten read
starts_written all read starts written = front_written read starts.0 all starts.1 written

read_back : (bytes first rest : Text) (all read : List Said) → IsAfterFirst bytes first rest → AreIn rest read → AreWritten all → Begins (first ++ lines all []) bytes → StartsWith all read
read_back bytes first rest all read after are written begins =
    let left = rest_of bytes first rest all after begins in
    are.back all left.0 written.each left.1

pages_written : (said : List Said) → AreWritten said → ArePages (pages_of said)
pages_written said written = record { each = go said written.each; few = written.few }
  where
    go : (xs : List Said) → All IsWritten xs → All IsEntry (pages_of xs)
    go [] each = λ k d within. absurd (omega arith)
    go (Page e ∷ xs) each = All-cons IsEntry e (pages_of xs) (All-head IsWritten (Page e) xs each) (go xs (All-tail IsWritten (Page e) xs each))
    go (Answer t ∷ xs) each = go xs (All-tail IsWritten (Answer t) xs each)

held_written : (said : List Said) (read : Lines) → Holds said read → AreWritten said → ArePages read.pages.items
held_written said read holds written = subst ArePages (sym holds.pages) (pages_written said written)

-- what was read of a journal that was cut is a front of it
pub run_back : (bytes first rest : Text) (all : List Said) (read : Lines) (run : StoppedRun) → IsAfterFirst bytes first rest → IsSaidIn rest read → IsWholeIndexOf read.pages.items run.pages
    → run.answers.items ≡ read.answers.items → AreWritten all → Begins (first ++ lines all []) bytes → (said : List Said) × IsJournal bytes first said × StartsWith all said × IsRunOf said run
run_back bytes first rest all read run after are whole same written begins = (
  are.said,
  is_journal bytes first rest are.said after are.in_text,
  read_back bytes first rest all are.said after are.in_text written begins,
  run_of are.said read run are.holds whole same,
)

-- then all of it may be written
pub back_written : (bytes first rest : Text) (all : List Said) (read : Lines) → IsAfterFirst bytes first rest → IsSaidIn rest read → AreWritten all → Begins (first ++ lines all []) bytes
    → ArePages read.pages.items
back_written bytes first rest all read after are written begins =
    held_written are.said read are.holds (starts_written all are.said (read_back bytes first rest all are.said after are.in_text written begins) written)

never_bad : (bytes first rest : Text) (all : List Said) (n : ℕ) → IsAfterFirst bytes first rest → IsBadIn rest n → AreWritten all → Begins (first ++ lines all []) bytes → ⊥
never_bad bytes first rest all n after bad written begins =
    let left = rest_of bytes first rest all after begins in
    bad.never all left.0 written.each left.1

never_other : (bytes first : Text) (all : List Said) → IsOther bytes first → Begins (first ++ lines all []) bytes → ⊥
never_other bytes first all other begins =
    elim (one_begins first bytes (lines all []) begins.0 begins.1) [ inl is ↦ other.after is | inr is ↦ other.part is ]

first_bad : (bytes first rest : Text) (n : ℕ) → IsAfterFirst bytes first rest → IsBadIn rest n → IsFirstBad bytes first n
first_bad bytes first rest n (inl is) bad = record {
  said = bad.said;
  rest = bad.rest;
  text = is ∙ ap (λ (t : Text). first ++ t) bad.is;
  line = bad.line;
  whole = bad.whole;
  bad = bad.bad;
}
first_bad bytes first rest n (inr is) bad = absurd (go bad.said bad.rest (sym is.0 ∙ bad.is) bad.whole)
  where
    go : (said : List Said) (left : Text) → [] ≡ lines said left → (¬ Lacks 10 left) → ⊥
    go [] [] is whole = whole tt
    go [] (x ∷ xs) is whole = cc
    go (s ∷ said) left is whole = some_text (said_line s) 10 (lines said left) (sym is)

pub unwritten : (bytes first rest : Text) (read : Lines) (whole : Bool) → IsAfterFirst bytes first rest → IsSaidIn rest read → (ArePages read.pages.items → whole ≡ true) → whole ≡ false
    → HasUnwritten bytes first
unwritten bytes first rest read whole after are all lacks = record {
  said = are.said;
  whole = is_journal bytes first rest are.said after are.in_text;
  unwritten = λ written. (let yes : whole ≡ true = all (held_written are.said read are.holds written) in cc);
}

-- ---- what follows the first line

pub after_is : (bytes first rest : Text) (n : ℕ) → n ≡ length first → Begins bytes first → rest ≡ drop n bytes → bytes ≡ first ++ rest
after_is bytes first rest n at begins is = begins.1 ∙ ap (λ (t : Text). first ++ t) (sym (is ∙ ap (λ (k : ℕ). drop k bytes) at ∙ ap (drop (length first)) begins.1 ∙ drop_front first begins.0))
  where
    drop_front : (xs ys : Text) → drop (length xs) (xs ++ ys) ≡ ys
    drop_front [] ys = refl
    drop_front (x ∷ xs) ys = drop_front xs ys

pub never_begins : (text front : Text) → starts_with nat_eq text front ≡ false → ¬ Begins text front
never_begins text front no_front begins = (let is : starts_with nat_eq text front ≡ true = (begins-Decides text front).1 begins in cc)

-- ---- faults

pub never_fault : (bytes first : Text) (all : List Said) (fault : JournalFault) → IsFaultOfFirst bytes first fault → Begins (first ++ lines all []) bytes → ⊥
never_fault bytes first all Version is begins = never_other bytes first all is.0 begins
never_fault bytes first all Starts is begins = never_other bytes first all is.0 begins
never_fault bytes first all (Line line) is begins = is
never_fault bytes first all EntryFault is begins = is
never_fault bytes first all Memory is begins = is

pub memory_only : (bytes first rest : Text) (all : List Said) (fault : JournalFault) → IsAfterFirst bytes first rest → IsFaultIn rest fault → AreWritten all → Begins (first ++ lines all []) bytes → fault ≡ Memory
memory_only bytes first rest all Version after is written begins = absurd is
memory_only bytes first rest all Starts after is written begins = absurd is
memory_only bytes first rest all (Line line) after is written begins = absurd (never_bad bytes first rest all line after is written begins)
memory_only bytes first rest all EntryFault after is written begins = absurd is
memory_only bytes first rest all Memory after is written begins = refl

pub line_fault : (bytes first rest : Text) (fault : JournalFault) (n : ℕ) → IsAfterFirst bytes first rest → IsFaultIn rest fault → fault ≡ Line n → IsFirstBad bytes first n
line_fault bytes first rest Version n after is same = absurd is
line_fault bytes first rest Starts n after is same = absurd is
line_fault bytes first rest (Line line) n after is same = let this : line ≡ n = cc in subst (IsFirstBad bytes first) this (first_bad bytes first rest line after is)
line_fault bytes first rest EntryFault n after is same = absurd is
line_fault bytes first rest Memory n after is same = cc
