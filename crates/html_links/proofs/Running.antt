-- What is taken from the front of a text many bytes at a time.
use Rattle.std.proofs.Common.{◌≡◌, ℕ, ◌<◌, ◌≤◌, zero, suc, Bool, true, false, List, [], ◌∷◌, ◌++◌, length, take, drop, drop-cons, take-suc, get_or, if◌then◌else◌, ◌==◌, refl, sym, ◌∙◌, ap, ap₂, arith, append_assoc, append-nil}
use Rattle.std.proofs.lemmas.List.{take_all, drop_all}
use Rattle.memchr.specs.Find.{Nowhere, is_byte, Passes}
use Rattle.html_links.specs.Pieces.{until, from, beyond, lower, is, ends_tag_name, ends_attribute_name, ends_bare_value}
use Rattle.html_links.specs.Contexts.{Context}
use Rattle.css_links.specs.References.{Front}
use Rattle.html_links.specs.Markup.{Attributes, Value, mark, until_section, beyond_section, end_tag, attributes, value_behind}
use Rattle.html_links.specs.declared.lexer.Section.{Section}
use Rattle.html_links.specs.Pieces.{Source}
use Rattle.html_links.specs.Lexing.{asked_from, with_section, in_section, tags_after, tags_with, kept_with, with_named, in_end_tag_name, in_attribute_name, in_attribute_value_quoted, in_attribute_value_unquoted, in_raw_text}
use Rattle.html_links.specs.declared.lexer.Lexer.{Lexer}
use Rattle.html_links.specs.declared.raw_element.RawElement.{RawElement}
use Rattle.std.proofs.lemmas.Bool.Decides.{nat_tests}
use Rattle.html_links.proofs.Stepping.{text_other, section_other, until_other}
use Rattle.html_links.proofs.RawText.{raw_other}
use Rattle.html_links.proofs.Tagging.{PutsEndName}

-- what no byte before the one that stops changes is the same of what is left
pub skipped : {X : Type 0} (stops : ℕ → Bool) (F : List ℕ → X) → ((b : ℕ) (bs : List ℕ) → stops b ≡ false → F (b ∷ bs) ≡ F bs)
    → (xs rest : List ℕ) → F (xs ++ rest) ≡ F (from stops xs ++ rest)
skipped stops F step [] rest = refl
skipped stops F step (b ∷ bs) rest = go (stops b) refl (skipped stops F step bs rest) where
  go : (t : Bool) → stops b ≡ t → F (bs ++ rest) ≡ F (from stops bs ++ rest) → F (b ∷ (bs ++ rest)) ≡ F ((if t then b ∷ bs else from stops bs) ++ rest)
  go true e h = refl
  go false e h = step b (bs ++ rest) e ∙ h

other_is : (x b : ℕ) → (b == x) ≡ false → b ≡ x → ⊥
other_is x b e f = grind (arith, nat_tests)

pub text_over : (styled : Bool) (s : Front) (raw : List ℕ) (k : Context) (xs rest : List ℕ) → asked_from styled s raw k (xs ++ rest) ≡ asked_from styled s (raw ++ until (is 60) xs) k (from (is 60) xs ++ rest)
text_over styled s raw k [] rest = ap (λ more. asked_from styled s more k rest) (sym (append-nil raw))
text_over styled s raw k (b ∷ bs) rest = go (b == 60) refl (text_over styled s (raw ++ b ∷ []) k bs rest) where
  go : (t : Bool) → (b == 60) ≡ t → asked_from styled s (raw ++ b ∷ []) k (bs ++ rest) ≡ asked_from styled s ((raw ++ b ∷ []) ++ until (is 60) bs) k (from (is 60) bs ++ rest)
      → asked_from styled s raw k (b ∷ (bs ++ rest)) ≡ asked_from styled s (raw ++ (if t then [] else b ∷ until (is 60) bs)) k ((if t then b ∷ bs else from (is 60) bs) ++ rest)
  go true e h = ap (λ more. asked_from styled s more k (b ∷ (bs ++ rest))) (sym (append-nil raw))
  go false e h =
      text_other styled s raw k b (bs ++ rest) (other_is 60 b e) ∙ h
      ∙ ap (λ more. asked_from styled s more k (from (is 60) bs ++ rest)) (append_assoc raw (b ∷ []) (until (is 60) bs))

beyond_section_over : (s : Section) (xs rest : List ℕ) → beyond_section s (xs ++ rest) ≡ beyond_section s (from (is (mark s)) xs ++ rest)
beyond_section_over s = skipped (is (mark s)) (beyond_section s) (λ b bs e. section_other s b bs (other_is (mark s) b e))

until_section_over : (s : Section) (xs rest : List ℕ) → until_section s (xs ++ rest) ≡ until (is (mark s)) xs ++ until_section s (from (is (mark s)) xs ++ rest)
until_section_over s [] rest = refl
until_section_over s (b ∷ bs) rest = go (b == mark s) refl (until_section_over s bs rest) where
  go : (t : Bool) → (b == mark s) ≡ t → until_section s (bs ++ rest) ≡ until (is (mark s)) bs ++ until_section s (from (is (mark s)) bs ++ rest)
      → until_section s (b ∷ (bs ++ rest)) ≡ (if t then [] else b ∷ until (is (mark s)) bs) ++ until_section s ((if t then b ∷ bs else from (is (mark s)) bs) ++ rest)
  go true e h = refl
  go false e h = until_other s b (bs ++ rest) (other_is (mark s) b e) ∙ ap (λ text. b ∷ text) h

-- many bytes of a section that don't begin its end
pub section_over : (l : Lexer) (s : Section) (xs rest : List ℕ)
    → in_section l s (xs ++ rest) ≡ with_section l s (until (is (mark s)) xs ++ until_section s (from (is (mark s)) xs ++ rest)) (beyond_section s (from (is (mark s)) xs ++ rest))
section_over l s xs rest = ap₂ (λ text more. with_section l s text more) (until_section_over s xs rest) (beyond_section_over s xs rest)

pub raw_over : (k : Context) (element : RawElement) (xs rest : List ℕ) → in_raw_text k element 0 (xs ++ rest) ≡ in_raw_text k element 0 (from (is 60) xs ++ rest)
raw_over k element = skipped (is 60) (in_raw_text k element 0) (λ b bs e. raw_other k element b bs (other_is 60 b e))

from_go : (stops : ℕ → Bool) (b : ℕ) (bs : List ℕ) → stops b ≡ false → from stops (b ∷ bs) ≡ from stops bs
from_go stops b bs e = rw e refl

beyond_go : (stops : ℕ → Bool) (b : ℕ) (bs : List ℕ) → stops b ≡ false → beyond stops (b ∷ bs) ≡ beyond stops bs
beyond_go stops b bs e = rw e refl

pub from_over : (stops : ℕ → Bool) (xs rest : List ℕ) → from stops (xs ++ rest) ≡ from stops (from stops xs ++ rest)
from_over stops xs rest = skipped stops (from stops) (from_go stops) xs rest

pub beyond_over : (stops : ℕ → Bool) (xs rest : List ℕ) → beyond stops (xs ++ rest) ≡ beyond stops (from stops xs ++ rest)
beyond_over stops xs rest = skipped stops (beyond stops) (beyond_go stops) xs rest

until_stop : (stops : ℕ → Bool) (b : ℕ) (bs : List ℕ) → stops b ≡ true → until stops (b ∷ bs) ≡ []
until_stop stops b bs e = rw e refl

pub until_over : (stops : ℕ → Bool) (xs rest : List ℕ) → until stops (xs ++ rest) ≡ until stops xs ++ until stops (from stops xs ++ rest)
until_over stops [] rest = refl
until_over stops (b ∷ bs) rest = go (stops b) refl (until_over stops bs rest) where
  go : (t : Bool) → stops b ≡ t → until stops (bs ++ rest) ≡ until stops bs ++ until stops (from stops bs ++ rest)
      → (if t then [] else b ∷ until stops (bs ++ rest)) ≡ (if t then [] else b ∷ until stops bs) ++ until stops ((if t then b ∷ bs else from stops bs) ++ rest)
  go true e h = sym (until_stop stops b (bs ++ rest) e)
  go false e h = ap (λ text. b ∷ text) h

pub lower-append : (xs ys : List ℕ) → lower (xs ++ ys) ≡ lower xs ++ lower ys
lower-append [] ys = refl
lower-append (x ∷ xs) ys = rw (lower-append xs ys) refl

-- a name goes on
pub name_over : (stops : ℕ → Bool) (name xs rest : List ℕ) → name ++ lower (until stops (xs ++ rest)) ≡ (name ++ lower (until stops xs)) ++ lower (until stops (from stops xs ++ rest))
name_over stops name xs rest =
    ap (λ text. name ++ lower text) (until_over stops xs rest)
    ∙ ap (λ text. name ++ text) (lower-append (until stops xs) (until stops (from stops xs ++ rest)))
    ∙ sym (append_assoc name (lower (until stops xs)) (lower (until stops (from stops xs ++ rest))))

-- ---- a search for a byte

pub found_at : (x : ℕ) (text : List ℕ) (k : ℕ) → k < length text → Nowhere (Passes (is_byte x) text) 0 k → Passes (is_byte x) text k
    → (until (is x) text ≡ take k text) × (from (is x) text ≡ drop k text)
found_at x [] k h n p = absurd (omega arith)
found_at x (b ∷ bs) zero h n p = (rw p refl, rw p refl)
found_at x (b ∷ bs) (suc k) h n p = go (b == x) refl (found_at x bs k (omega arith) (λ j _ below. n (suc j) (omega arith) (omega arith)) p) where
  go : (t : Bool) → (b == x) ≡ t → (until (is x) bs ≡ take k bs) × (from (is x) bs ≡ drop k bs)
      → ((if t then [] else b ∷ until (is x) bs) ≡ b ∷ take k bs) × ((if t then b ∷ bs else from (is x) bs) ≡ drop k bs)
  go true e g = absurd (n 0 (omega arith) (omega arith) e)
  go false e g = (ap (λ text. b ∷ text) g.0, g.1)

pub found_nowhere : (x : ℕ) (text : List ℕ) → Nowhere (Passes (is_byte x) text) 0 (length text) → (until (is x) text ≡ text) × (from (is x) text ≡ [])
found_nowhere x [] n = (refl, refl)
found_nowhere x (b ∷ bs) n = go (b == x) refl (found_nowhere x bs (λ j _ below. n (suc j) (omega arith) (omega arith))) where
  go : (t : Bool) → (b == x) ≡ t → (until (is x) bs ≡ bs) × (from (is x) bs ≡ [])
      → ((if t then [] else b ∷ until (is x) bs) ≡ b ∷ bs) × ((if t then b ∷ bs else from (is x) bs) ≡ [])
  go true e g = absurd (n 0 (omega arith) (omega arith) e)
  go false e g = (ap (λ text. b ∷ text) g.0, g.1)

-- ---- a search for a class of bytes

drop_at : (text : List ℕ) (i : ℕ) → i < length text → drop i text ≡ get_or text i 0 ∷ drop (suc i) text
drop_at text i h = drop-cons text i 0 h

pub stopped_until : (stops : ℕ → Bool) (text : List ℕ) (i : ℕ) → i < length text → stops (get_or text i 0) ≡ true
    → until stops text ≡ take i text ++ until stops (drop i text) → until stops text ≡ take i text
stopped_until stops text i h e f =
    f ∙ ap (λ xs. take i text ++ until stops xs) (drop_at text i h) ∙ ap (λ xs. take i text ++ xs) (until_stop stops (get_or text i 0) (drop (suc i) text) e) ∙ append-nil (take i text)

from_stop : (stops : ℕ → Bool) (b : ℕ) (bs : List ℕ) → stops b ≡ true → from stops (b ∷ bs) ≡ b ∷ bs
from_stop stops b bs e = rw e refl

pub stopped_from : (stops : ℕ → Bool) (text : List ℕ) (i : ℕ) → i < length text → stops (get_or text i 0) ≡ true
    → from stops text ≡ from stops (drop i text) → from stops text ≡ drop i text
stopped_from stops text i h e f =
    f ∙ ap (from stops) (drop_at text i h) ∙ from_stop stops (get_or text i 0) (drop (suc i) text) e ∙ sym (drop_at text i h)

until_go : (stops : ℕ → Bool) (b : ℕ) (bs : List ℕ) → stops b ≡ false → until stops (b ∷ bs) ≡ b ∷ until stops bs
until_go stops b bs e = rw e refl

pub passed_until : (stops : ℕ → Bool) (text : List ℕ) (i : ℕ) → i < length text → stops (get_or text i 0) ≡ false
    → until stops text ≡ take i text ++ until stops (drop i text) → until stops text ≡ take (suc i) text ++ until stops (drop (suc i) text)
passed_until stops text i h e f =
    f ∙ ap (λ xs. take i text ++ until stops xs) (drop_at text i h) ∙ ap (λ xs. take i text ++ xs) (until_go stops (get_or text i 0) (drop (suc i) text) e)
    ∙ sym (append_assoc (take i text) (get_or text i 0 ∷ []) (until stops (drop (suc i) text))) ∙ ap (λ xs. xs ++ until stops (drop (suc i) text)) (sym (take-suc text i 0 h))

pub ended_until : (stops : ℕ → Bool) (text : List ℕ) (i : ℕ) → length text ≤ i → until stops text ≡ take i text ++ until stops (drop i text) → text ≡ until stops text
ended_until stops text i h f = let whole = rw (take_all i text h, drop_all i text h) at f in sym (whole ∙ append-nil text)

pub ended_from : (stops : ℕ → Bool) (text : List ℕ) (i : ℕ) → length text ≤ i → from stops text ≡ from stops (drop i text) → [] ≡ from stops text
ended_from stops text i h f = sym (f ∙ ap (from stops) (drop_all i text h))

pub passed_from : (stops : ℕ → Bool) (text : List ℕ) (i : ℕ) → i < length text → stops (get_or text i 0) ≡ false
    → from stops text ≡ from stops (drop i text) → from stops text ≡ from stops (drop (suc i) text)
passed_from stops text i h e f = f ∙ ap (from stops) (drop_at text i h) ∙ from_go stops (get_or text i 0) (drop (suc i) text) e

-- ---- a lexer inside a tag

-- what a tag gives by its name and what was found of its attributes, with a name that goes on
pub tag_name_ran : (F : List ℕ → Attributes → List Source) (name more text front behind rest : List ℕ) → more ≡ name ++ lower front → front ≡ until ends_tag_name text → behind ≡ from ends_tag_name text
    → F (name ++ lower (until ends_tag_name (text ++ rest))) (attributes (from ends_tag_name (text ++ rest)))
    ≡ F (more ++ lower (until ends_tag_name (behind ++ rest))) (attributes (from ends_tag_name (behind ++ rest)))
tag_name_ran F name more text front behind rest named before left =
    rw (named, before, left)
    (ap (λ n. F n (attributes (from ends_tag_name (text ++ rest)))) (name_over ends_tag_name name text rest)
    ∙ ap (λ t. F ((name ++ lower (until ends_tag_name text)) ++ lower (until ends_tag_name (from ends_tag_name text ++ rest))) (attributes t)) (from_over ends_tag_name text rest))

pub attribute_name_over : (l new : Lexer) (text rest : List ℕ) → new ≡ record l { attribute = new.attribute }
    → ((name : List ℕ) (found : Value) → with_named l (new.attribute.items ++ name) found ≡ with_named l (l.attribute.items ++ (lower (until ends_attribute_name text) ++ name)) found)
    → in_attribute_name l (text ++ rest) ≡ in_attribute_name new (from ends_attribute_name text ++ rest)
attribute_name_over l new text rest same named =
    let left = from ends_attribute_name text ++ rest in
    let more = lower (until ends_attribute_name left) in
    ap (λ n. with_named l n (value_behind (from ends_attribute_name (text ++ rest)))) (name_over ends_attribute_name l.attribute.items text rest ∙ append_assoc l.attribute.items (lower (until ends_attribute_name text)) more)
    ∙ ap (λ t. with_named l (l.attribute.items ++ (lower (until ends_attribute_name text) ++ more)) (value_behind t)) (from_over ends_attribute_name text rest)
    ∙ sym (named more (value_behind (from ends_attribute_name left)))
    ∙ ap (λ (to : Lexer). with_named to (new.attribute.items ++ more) (value_behind (from ends_attribute_name left))) (sym same)

-- a value goes on, as far as it is kept
pub quoted_over : (quote : ℕ) (l new : Lexer) (text rest : List ℕ) → new ≡ record l { value = new.value }
    → ((value : List ℕ) → kept_with l (new.value.items ++ value) ≡ kept_with l (l.value.items ++ (until (is quote) text ++ value)))
    → in_attribute_value_quoted quote l (text ++ rest) ≡ in_attribute_value_quoted quote new (from (is quote) text ++ rest)
quoted_over quote l new text rest same kept =
    let more = until (is quote) (from (is quote) text ++ rest) in
    ap (λ v. tags_with l (kept_with l (l.value.items ++ v)) (attributes (beyond (is quote) (text ++ rest)))) (until_over (is quote) text rest)
    ∙ ap (λ k. tags_with l k (attributes (beyond (is quote) (text ++ rest)))) (sym (kept more))
    ∙ ap (λ t. tags_with l (kept_with l (new.value.items ++ more)) (attributes t)) (beyond_over (is quote) text rest)
    ∙ ap (λ (to : Lexer). tags_with to (kept_with to (new.value.items ++ more)) (attributes (beyond (is quote) (from (is quote) text ++ rest)))) (sym same)

pub bare_over : (l new : Lexer) (text rest : List ℕ) → new ≡ record l { value = new.value }
    → ((value : List ℕ) → kept_with l (new.value.items ++ value) ≡ kept_with l (l.value.items ++ (until ends_bare_value text ++ value)))
    → in_attribute_value_unquoted l (text ++ rest) ≡ in_attribute_value_unquoted new (from ends_bare_value text ++ rest)
bare_over l new text rest same kept =
    let more = until ends_bare_value (from ends_bare_value text ++ rest) in
    ap (λ v. tags_with l (kept_with l (l.value.items ++ v)) (attributes (from ends_bare_value (text ++ rest)))) (until_over ends_bare_value text rest)
    ∙ ap (λ k. tags_with l k (attributes (from ends_bare_value (text ++ rest)))) (sym (kept more))
    ∙ ap (λ t. tags_with l (kept_with l (new.value.items ++ more)) (attributes t)) (from_over ends_bare_value text rest)
    ∙ ap (λ (to : Lexer). tags_with to (kept_with to (new.value.items ++ more)) (attributes (from ends_bare_value (from ends_bare_value text ++ rest)))) (sym same)

pub end_name_over : (l new : Lexer) (text rest : List ℕ) → new ≡ record l { name = new.name } → PutsEndName l new (until ends_tag_name text)
    → in_end_tag_name l (text ++ rest) ≡ in_end_tag_name new (from ends_tag_name text ++ rest)
end_name_over l new text rest same named =
    let left = from ends_tag_name text ++ rest in
    let more = lower (until ends_tag_name left) in
    ap (λ n. tags_after l.context (end_tag n (attributes (from ends_tag_name (text ++ rest))))) (name_over ends_tag_name l.name.items text rest ∙ append_assoc l.name.items (lower (until ends_tag_name text)) more)
    ∙ ap (λ t. tags_after l.context (end_tag (l.name.items ++ (lower (until ends_tag_name text) ++ more)) (attributes t))) (from_over ends_tag_name text rest)
    ∙ sym (named more (attributes (from ends_tag_name left)))
    ∙ ap (λ (to : Lexer). tags_after to.context (end_tag (new.name.items ++ more) (attributes (from ends_tag_name left)))) (sym same)
