-- Texts followed by a fragment.
use Rattle.std.proofs.Common.{◌≡◌, ◌≢◌, ℕ, ◌<◌, ◌≤◌, ◌||◌, ◌&&◌, nat_lt, Bool, true, false, ◌-◌, zero, suc, length, take, drop, length-drop, List, [], ◌∷◌, ◌++◌, All, if◌then◌else◌, ◌==◌, refl, sym, ap, ◌∙◌, inl, inr, arith}
use Rattle.std.proofs.lemmas.Bool.{eqb-true, agree_below, agree_below_at}
use Rattle.std.proofs.lemmas.Bool.Decides.{nat_tests}
use Rattle.std.proofs.lemmas.List.Elements.{All-head, All-tail}
use Rattle.std.specs.List.{list_all}
use Rattle.std.proofs.lemmas.List.{take_all}
use Rattle.memchr.specs.Find.{Nowhere, is_byte, Passes}
use Rattle.percent_encoding.specs.AsciiSet.{contains, should_percent_encode}
use Rattle.percent_encoding.specs.Percent.{percent_encode}
use Rattle.percent_encoding.proofs.AsciiSetLemmas.{ascii_from_kept, outside_from_kept}
use Rattle.percent_encoding.proofs.PercentLemmas.{IsEscapeByte, percent_encode-nil, percent_encode_kept, All-percent_encode}
use Rattle.link_changes.specs.declared.fragment.TheConstants.{FRAGMENT}
use Rattle.link_changes.specs.Leading.{before_mark, from_mark, fragment_of, is_own, begins_mark}
use Rattle.link_changes.specs.Changing.{is_visible}

-- no `#` is in the text
abbrev pub Unmarked : ℕ → Type 0
Unmarked b = (b == 35) ≡ false

pub before_plain : (text fragment : List ℕ) → All Unmarked text → is_own fragment ≡ true → before_mark (text ++ fragment) ≡ text
before_plain [] [] all own = refl
before_plain [] (b ∷ bs) all own = ap (λ t. if t then [] else b ∷ before_mark bs) own
before_plain (b ∷ bs) fragment all own =
    ap (λ t. if t then [] else b ∷ before_mark (bs ++ fragment)) (All-head Unmarked b bs all)
    ∙ ap (λ xs. b ∷ xs) (before_plain bs fragment (All-tail Unmarked b bs all) own)

pub from_plain : (text fragment : List ℕ) → All Unmarked text → is_own fragment ≡ true → from_mark (text ++ fragment) ≡ fragment
from_plain [] [] all own = refl
from_plain [] (b ∷ bs) all own = ap (λ t. if t then b ∷ bs else from_mark bs) own
from_plain (b ∷ bs) fragment all own =
    ap (λ t. if t then b ∷ (bs ++ fragment) else from_mark (bs ++ fragment)) (All-head Unmarked b bs all)
    ∙ from_plain bs fragment (All-tail Unmarked b bs all) own

-- ---- fragments

mark_kept : should_percent_encode FRAGMENT 35 ≡ false
unfolding should_percent_encode
mark_kept = refl

encoded_own : (b : ℕ) (bs : List ℕ) → b ≡ 35 → is_own (percent_encode FRAGMENT (b ∷ bs)) ≡ true
encoded_own b bs e = ap is_own (percent_encode_kept FRAGMENT b bs (ap (should_percent_encode FRAGMENT) e ∙ mark_kept)) ∙ ap (λ x. x == 35) e

own_from : (text : List ℕ) → is_own (percent_encode FRAGMENT (from_mark text)) ≡ true
own_from [] = ap is_own (percent_encode-nil FRAGMENT)
own_from (b ∷ bs) = go (b == 35) refl (own_from bs) where
  go : (t : Bool) → (b == 35) ≡ t → is_own (percent_encode FRAGMENT (from_mark bs)) ≡ true → is_own (percent_encode FRAGMENT (if t then b ∷ bs else from_mark bs)) ≡ true
  go true e h = encoded_own b bs (eqb-true b 35 e)
  go false e h = h

-- a fragment is nothing or begins with `#`
pub fragment_own : (text : List ℕ) → is_own (fragment_of text) ≡ true
unfolding fragment_of
fragment_own text = own_from text

pub fragment_none : fragment_of [] ≡ []
unfolding fragment_of
fragment_none = percent_encode-nil FRAGMENT

marked_some : (b : ℕ) (bs : List ℕ) → (b == 35) ≡ true → percent_encode FRAGMENT (from_mark (b ∷ bs)) ≢ []
marked_some b bs e none =
    let mark = eqb-true b 35 e in
    let kept = percent_encode_kept FRAGMENT b bs (ap (should_percent_encode FRAGMENT) mark ∙ mark_kept) in
    let shape : b ∷ percent_encode FRAGMENT bs ≡ [] = sym kept ∙ ap (λ t. percent_encode FRAGMENT (if t then b ∷ bs else from_mark bs)) (sym e) ∙ none in
    absurd (cc)

-- the fragment of what begins with `#` does so
pub fragment_some : (text : List ℕ) → begins_mark text ≡ true → fragment_of text ≢ []
unfolding fragment_of
fragment_some [] e = absurd (cc)
fragment_some (b ∷ bs) e = marked_some b bs e

-- ---- visible bytes

abbrev pub Visible : ℕ → Type 0
Visible b = is_visible b ≡ true

table : (b : ℕ) → b < 128 → (contains FRAGMENT b || is_visible b) ≡ true
table b small = agree_below_at (λ x. contains FRAGMENT x || is_visible x) (λ x. true) 128 b refl small

kept_visible : (b : ℕ) → should_percent_encode FRAGMENT b ≡ false → Visible b
kept_visible b e = ap (λ t. t || is_visible b) (sym (outside_from_kept FRAGMENT b e)) ∙ table b (ascii_from_kept FRAGMENT b e)

pub near : (b : ℕ) → 33 ≤ b → b ≤ 126 → Visible b
near b low high = grind (arith, nat_tests)

escape_visible : (b : ℕ) → IsEscapeByte b → Visible b
escape_visible b escape = elim escape [
  | inl e ↦ near b (omega arith) (omega arith)
  | inr digit ↦ elim digit [
    | inl d ↦ near b (omega arith) (omega arith)
    | inr d ↦ near b (omega arith) (omega arith)
  ]
]

pub fragment_visible : (text : List ℕ) → All Visible (fragment_of text)
unfolding fragment_of
fragment_visible text = All-percent_encode Visible FRAGMENT (from_mark text) kept_visible escape_visible

pub all_true : (p : ℕ → Bool) (text : List ℕ) → All (λ b. p b ≡ true) text → list_all p text ≡ true
all_true p [] all = refl
all_true p (b ∷ bs) all = ap (λ t. t && list_all p bs) (All-head (λ x. p x ≡ true) b bs all) ∙ all_true p bs (All-tail (λ x. p x ≡ true) b bs all)

-- ---- found in a text

from_at : (text : List ℕ) (k : ℕ) → k < length text → Nowhere (Passes (is_byte 35) text) 0 k → Passes (is_byte 35) text k → from_mark text ≡ drop k text
from_at [] k h n p = absurd (omega arith)
from_at (b ∷ bs) zero h n p = ap (λ t. if t then b ∷ bs else from_mark bs) p
from_at (b ∷ bs) (suc k) h n p = go (b == 35) refl (from_at bs k (omega arith) (λ j _ below. n (suc j) (omega arith) (omega arith)) p) where
  go : (t : Bool) → (b == 35) ≡ t → from_mark bs ≡ drop k bs → (if t then b ∷ bs else from_mark bs) ≡ drop k bs
  go true e g = absurd (n 0 (omega arith) (omega arith) e)
  go false e g = g

pub mark_at : (text : List ℕ) (k : ℕ) → k < length text → Nowhere (Passes (is_byte 35) text) 0 k → Passes (is_byte 35) text k → take (length text - k) (drop k text) ≡ from_mark text
mark_at text k h n p = take_all (length text - k) (drop k text) (omega (arith, length-drop k text)) ∙ sym (from_at text k h n p)

pub mark_nowhere : (text : List ℕ) → Nowhere (Passes (is_byte 35) text) 0 (length text) → [] ≡ from_mark text
mark_nowhere [] n = refl
mark_nowhere (b ∷ bs) n = go (b == 35) refl (mark_nowhere bs (λ j _ below. n (suc j) (omega arith) (omega arith))) where
  go : (t : Bool) → (b == 35) ≡ t → [] ≡ from_mark bs → [] ≡ (if t then b ∷ bs else from_mark bs)
  go true e g = absurd (n 0 (omega arith) (omega arith) e)
  go false e g = g

-- The URL Standard's fragment percent-encode set (section 1.3): controls, space, `"`, `<`, `>` and the grave accent.
pub fragment_set : agree_below (contains FRAGMENT) (λ b. nat_lt b 33 || b == 127 || b == 34 || b == 60 || b == 62 || b == 96) 128 ≡ true
fragment_set = refl
