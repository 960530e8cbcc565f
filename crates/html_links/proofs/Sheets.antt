-- What one byte changes in the text of a `style` element, beside what follows the element.
use Rattle.std.proofs.Common.{◌≡◌, ℕ, ◌≤◌, ◌<◌, zero, suc, Bool, true, false, List, [], ◌∷◌, ◌++◌, length, drop, drop-cons, get_or, if◌then◌else◌, ◌==◌, refl, sym, ◌∙◌, ap, ap₂, arith}
use Rattle.std.proofs.lemmas.List.{drop_all}
use Rattle.std.proofs.lemmas.Bool.{ne_eqb}
use Rattle.std.specs.Char.{to_ascii_lowercase}
use Rattle.css_links.specs.References.{Front, step, fed, ended, nothing_read, references}
use Rattle.html_links.specs.Pieces.{Source, until, from, is, ends_tag_name}
use Rattle.html_links.specs.Pieces.Source.{FromSheet}
use Rattle.html_links.specs.Contexts.{Context}
use Rattle.html_links.specs.Markup.{attributes, beyond_tag, closing_text, is_close, completes, style, raw_text, sheet_of}
use Rattle.html_links.specs.Asked.{asked, asked_tags}
use Rattle.html_links.specs.Lexing.{sheet_if, behind_left, sheet_from, sheet_left, in_sheet, in_sheet_end_tag, in_raw_end}
use Rattle.html_links.specs.declared.raw_element.RawElement.TheVariants.{Style}
use Rattle.html_links.proofs.Stepping.{eqb_same, nothing}
use Rattle.html_links.proofs.RawText.{lower_below, raw_word, word_less, close_skip, left_next, left_first, left_other, left_none, left_none_other}

-- ---- the definition over whole texts

from_rest : (s : Front) (text : List ℕ) → sheet_from s text ≡ FromSheet (ended (fed s (raw_text style text))) ∷ []
from_rest s [] = refl
from_rest s (b ∷ bs) = go (is_close style (b ∷ bs)) (from_rest (step s b) bs) where
  go : (t : Bool) → sheet_from (step s b) bs ≡ FromSheet (ended (fed (step s b) (raw_text style bs))) ∷ []
      → (if t then FromSheet (ended s) ∷ [] else sheet_from (step s b) bs) ≡ FromSheet (ended (fed s (if t then [] else b ∷ raw_text style bs))) ∷ []
  go true h = refl
  go false h = h

of_rest : (text : List ℕ) → asked (sheet_of text) ≡ FromSheet (ended (fed nothing_read text)) ∷ []
unfolding references
of_rest text = refl

-- the style sheet that a text is, read from its front
pub sheet_read : (rest : List ℕ) → asked (sheet_of (raw_text style rest)) ≡ sheet_from nothing_read rest
sheet_read rest = of_rest (raw_text style rest) ∙ sym (from_rest nothing_read rest)

-- ---- the end of the body

pub sheet_at_end : (k : Context) (s : Front) → in_sheet k s [] ≡ FromSheet (ended s) ∷ []
sheet_at_end k s = ap (λ xs. FromSheet (ended s) ∷ xs) (nothing k)

pub held_at_end : (k : Context) (s : Front) (held : List ℕ) (m : ℕ) → in_sheet_end_tag k s held m [] ≡ FromSheet (ended (fed s held)) ∷ []
held_at_end k s held m = go (drop m (closing_text style)) where
  go : (left : List ℕ) → sheet_left s held left [] ++ asked_tags k (behind_left left style []) ≡ FromSheet (ended (fed s held)) ∷ []
  go [] = ap (λ xs. FromSheet (ended (fed s held)) ∷ xs) (nothing k)
  go (x ∷ left) = ap (λ xs. FromSheet (ended (fed s held)) ∷ xs) (nothing k)

-- what was put to a sheet
fed_both : (s : Front) (xs ys : List ℕ) → fed s (xs ++ ys) ≡ fed (fed s xs) ys
fed_both s [] ys = refl
fed_both s (x ∷ xs) ys = fed_both (step s x) xs ys

pub sheet_put : (styled : Bool) (s new : Front) (bytes text : List ℕ) → new ≡ fed s bytes → sheet_if styled new text ≡ sheet_if styled s (bytes ++ text)
sheet_put false s new bytes text e = refl
sheet_put true s new bytes text e = ap (λ front. FromSheet (ended (fed front text)) ∷ []) e ∙ ap (λ front. FromSheet (ended front) ∷ []) (sym (fed_both s bytes text))

-- ---- bytes

sheet_skip : (s : Front) (b : ℕ) (bs : List ℕ) → (b ≡ 60 → ⊥) → sheet_from s (b ∷ bs) ≡ sheet_from (step s b) bs
sheet_skip s b bs h =
    let other : (to_ascii_lowercase b == 60) ≡ false = ne_eqb (to_ascii_lowercase b) 60 (λ e. h (lower_below b 60 (omega arith) e)) in
    rw other refl

both : (k : Context) (s : List Source) (t : List Source) (a b : List ℕ) → s ≡ t → a ≡ b → s ++ asked_tags k a ≡ t ++ asked_tags k b
both k s t a b e f = ap₂ (λ xs ys. xs ++ asked_tags k ys) e f

-- a byte that begins no end tag, and one that may
pub sheet_other : (k : Context) (s : Front) (b : ℕ) (bs : List ℕ) → (b ≡ 60 → ⊥) → in_sheet k s (b ∷ bs) ≡ in_sheet k (fed s (b ∷ [])) bs
sheet_other k s b bs h = both k _ _ _ _ (sheet_skip s b bs h) (close_skip style b bs h)

pub sheet_less : (k : Context) (s : Front) (bs : List ℕ) → in_sheet k s (60 ∷ bs) ≡ in_sheet_end_tag k s (60 ∷ []) 1 bs
sheet_less k s bs = refl

-- many bytes that begin none
pub sheet_over : (k : Context) (s : Front) (xs rest : List ℕ) → in_sheet k s (xs ++ rest) ≡ in_sheet k (fed s (until (is 60) xs)) (from (is 60) xs ++ rest)
sheet_over k s [] rest = refl
sheet_over k s (b ∷ bs) rest = go (b == 60) refl (sheet_over k (step s b) bs rest) where
  go : (t : Bool) → (b == 60) ≡ t → in_sheet k (step s b) (bs ++ rest) ≡ in_sheet k (fed (step s b) (until (is 60) bs)) (from (is 60) bs ++ rest)
      → in_sheet k s (b ∷ (bs ++ rest)) ≡ in_sheet k (fed s (if t then [] else b ∷ until (is 60) bs)) ((if t then b ∷ bs else from (is 60) bs) ++ rest)
  go true e h = refl
  go false e h = sheet_other k s b (bs ++ rest) (λ is. absurd (other e is)) ∙ h where
    other : (b == 60) ≡ false → b ≡ 60 → ⊥
    other e is = grind (arith, is)

-- ---- after a part of `</style`

fed_more : (s : Front) (xs : List ℕ) (b : ℕ) → fed s (xs ++ b ∷ []) ≡ step (fed s xs) b
fed_more s [] b = refl
fed_more s (x ∷ xs) b = fed_more (step s x) xs b

twice : (t : Bool) (x z y : List Source) → (if t then x else (if t then z else y)) ≡ (if t then x else y)
twice true x z y = refl
twice false x z y = refl

-- the next byte of it
left_step : (x : ℕ) (left : List ℕ) (s : Front) (held : List ℕ) (b : ℕ) (bs : List ℕ) → (x ≡ 60 → ⊥) → to_ascii_lowercase b ≡ x
    → sheet_left s held (x ∷ left) (b ∷ bs) ≡ sheet_left s (held ++ b ∷ []) left bs
left_step x left s held b bs h e =
    let other : b ≡ 60 → ⊥ = λ is. h (sym e ∙ ap to_ascii_lowercase is) in
    rw (fed_more s held b, sheet_skip (fed s held) b bs other, e, eqb_same x) refl

-- another byte
left_broken : (x : ℕ) (left : List ℕ) (s : Front) (held : List ℕ) (b : ℕ) (bs : List ℕ) → (to_ascii_lowercase b ≡ x → ⊥)
    → sheet_left s held (x ∷ left) (b ∷ bs) ≡ sheet_from (fed s held) (b ∷ bs)
left_broken x left s held b bs h = rw (ne_eqb (to_ascii_lowercase b) x h) refl

all_broken : (s : Front) (held : List ℕ) (b : ℕ) (bs : List ℕ) → ends_tag_name b ≡ false → sheet_left s held [] (b ∷ bs) ≡ sheet_from (fed s held) (b ∷ bs)
all_broken s held b bs h = rw h refl

all_ended : (s : Front) (held : List ℕ) (b : ℕ) (bs : List ℕ) → ends_tag_name b ≡ true → sheet_left s held [] (b ∷ bs) ≡ FromSheet (ended s) ∷ []
all_ended s held b bs h = rw h refl

-- after the whole of it, before a byte that ends a name and before another
pub sheet_ended : (k : Context) (s : Front) (held : List ℕ) (m b : ℕ) (bs : List ℕ) → length (closing_text style) ≤ m → ends_tag_name b ≡ true
    → in_sheet_end_tag k s held m (b ∷ bs) ≡ FromSheet (ended s) ∷ in_raw_end k (b ∷ bs)
sheet_ended k s held m b bs h t = rw (drop_all m (closing_text style) h) (both k _ (FromSheet (ended s) ∷ []) _ (beyond_tag (attributes (b ∷ bs))) (all_ended s held b bs t) (left_none style b bs t))

pub sheet_goes_on : (k : Context) (s : Front) (held : List ℕ) (m b : ℕ) (bs : List ℕ) → length (closing_text style) ≤ m → ends_tag_name b ≡ false
    → in_sheet_end_tag k s held m (b ∷ bs) ≡ in_sheet k (fed s held) (b ∷ bs)
sheet_goes_on k s held m b bs h t = rw (drop_all m (closing_text style) h) (both k _ _ _ _ (all_broken s held b bs t) (left_none_other style b bs t))

-- another byte than the next of it
pub sheet_broken : (k : Context) (s : Front) (held : List ℕ) (m b : ℕ) (bs : List ℕ) → m < length (closing_text style) → (to_ascii_lowercase b ≡ get_or (closing_text style) m 0 → ⊥)
    → in_sheet_end_tag k s held m (b ∷ bs) ≡ in_sheet k (fed s held) (b ∷ bs)
sheet_broken k s held m b bs h t =
    let text = closing_text style in
    rw (drop-cons text m 0 h)
    (both k _ _ _ _ (left_broken (get_or text m 0) (drop (suc m) text) s held b bs t) (left_other (get_or text m 0) (drop (suc m) text) style b bs t))

-- the next byte of it
first_less : (s : Front) (held bs : List ℕ) → sheet_left s held (closing_text style) (60 ∷ bs) ≡ sheet_left s (held ++ 60 ∷ []) (47 ∷ style) bs
first_less s held bs =
    twice (completes (47 ∷ style) bs) (FromSheet (ended s) ∷ []) (FromSheet (ended (fed s held)) ∷ []) (sheet_from (step (fed s held) 60) bs)
    ∙ ap (λ front. if completes (47 ∷ style) bs then FromSheet (ended s) ∷ [] else sheet_from front bs) (sym (fed_more s held 60))

first_step : (s : Front) (held : List ℕ) (b : ℕ) (bs : List ℕ) → to_ascii_lowercase b ≡ 60 → sheet_left s held (closing_text style) (b ∷ bs) ≡ sheet_left s (held ++ b ∷ []) (47 ∷ style) bs
first_step s held b bs h =
    let less : b ≡ 60 = lower_below b 60 (omega arith) h in
    ap (λ x. sheet_left s held (closing_text style) (x ∷ bs)) less ∙ first_less s held bs ∙ ap (λ x. sheet_left s (held ++ x ∷ []) (47 ∷ style) bs) (sym less)

pub sheet_next : (k : Context) (s : Front) (held : List ℕ) (m b : ℕ) (bs : List ℕ) → m < length (closing_text style) → to_ascii_lowercase b ≡ get_or (closing_text style) m 0
    → in_sheet_end_tag k s held m (b ∷ bs) ≡ in_sheet_end_tag k s (held ++ b ∷ []) (suc m) bs
sheet_next k s held zero b bs h t = both k _ _ _ _ (first_step s held b bs t) (left_first style b bs t)
sheet_next k s held (suc zero) b bs h t = both k _ _ _ _ (left_step 47 style s held b bs (λ f. omega arith) t) (left_next 47 style style b bs (λ f. omega arith) t)
sheet_next k s held (suc (suc i)) b bs h t =
    let at = drop-cons style i 0 (omega arith) in
    let less = word_less style i (raw_word Style) in
    rw at (both k _ _ _ _ (left_step (get_or style i 0) (drop (suc i) style) s held b bs less t) (left_next (get_or style i 0) (drop (suc i) style) style b bs less t))
