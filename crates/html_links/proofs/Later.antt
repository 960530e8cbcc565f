-- Which value comes next, and how it is read by all attributes of its tag.
use Rattle.std.proofs.Common.{◌≡◌, ℕ, Bool, true, false, List, [], ◌∷◌, ◌++◌, Option, Some, None, option_map, if◌then◌else◌, refl, sym, ◌∙◌, ap, append-nil}
use Rattle.std.specs.Option.{option_or}
use Rattle.std.specs.Str.{bytes_eq}
use Rattle.html_links.specs.Pieces.{Attribute, Source, Tag, from, is_not_white}
use Rattle.html_links.specs.Pieces.Source.{FromTag, FromSheet}
use Rattle.html_links.specs.Contexts.{Context}
use Rattle.html_links.specs.Markup.{Attributes, attributes, value_at}
use Rattle.html_links.specs.Values.{value_text_of, written, value_of}
use Rattle.html_links.specs.Asked.{asked_name, asked_attributes, given}
use Rattle.html_links.specs.Lexing.{remaining, remaining_in, tag_with, tags_with, kept_if}
use Rattle.html_links.specs.Awaiting.{is_kept, later_of, later_at}
use Rattle.html_links.specs.declared.asked.AskedName.{AskedName}
use Rattle.html_links.specs.declared.asked.Wanted.{Wanted}
use Rattle.html_links.specs.declared.asked.Wanted.TheVariants as wanted
use Rattle.html_links.specs.inner.Lexing.{GivesTag, LeavesTag, tag_ended}
use Rattle.html_links.specs.declared.context.Scope.{Scope}
use Rattle.html_links.specs.declared.lexer.Ended.{Ended}
use Rattle.html_links.specs.declared.lexer.Ended.TheVariants as ends
use Rattle.html_links.specs.declared.lexer.Lexer.{Lexer}
use Rattle.html_links.specs.declared.lexer.TokenizerState.TheVariants.{BeforeAttributeValue}
use Rattle.html_links.specs.declared.raw_element.RawElement.{RawElement}

-- ---- the first of a name counts

written_or : (name : List ℕ) (xs ys : List Attribute) → written name (xs ++ ys) ≡ option_or (written name xs) (written name ys)
written_or name [] ys = refl
written_or name (a ∷ xs) ys = go (bytes_eq a.name name) (written_or name xs ys) where
  go : (t : Bool) → written name (xs ++ ys) ≡ option_or (written name xs) (written name ys)
      → (if t then Some a.value else written name (xs ++ ys)) ≡ option_or (if t then Some a.value else written name xs) (written name ys)
  go true h = refl
  go false h = h

pub has_value : (name value : List ℕ) (before : List Attribute) → written name before ≡ Some value → (later : List Attribute) → value_of name (before ++ later) ≡ value_of name before
has_value name value before e later =
    ap (option_map value_text_of) (written_or name before later ∙ ap (λ (v : Option (List ℕ)). option_or v (written name later)) e ∙ sym e)

pub lacks_value : (name : List ℕ) (before : List Attribute) → written name before ≡ None → (later : List Attribute) → value_of name (before ++ later) ≡ value_of name later
lacks_value name before e later =
    ap (option_map value_text_of) (written_or name before later ∙ ap (λ (v : Option (List ℕ)). option_or v (written name later)) e)

-- ---- the rest of a tag

-- the attributes of the first tag, or else these
attributes_first : List Attribute → List Source → List Attribute
attributes_first none [] = none
attributes_first none (FromTag tag ∷ more) = tag.attributes
attributes_first none (FromSheet references ∷ more) = none

-- the attributes of a tag that comes first
first_attributes : (name : List ℕ) (kept : List Attribute) (w : Wanted) (tail : List Source) (tag : Tag) (more : List Source) (a : Attribute) → is_kept w ≡ true
    → given w name (a ∷ kept) ++ tail ≡ FromTag tag ∷ more → a ∷ kept ≡ tag.attributes
unfolding attributes_first
first_attributes name kept wanted.Nothing tail tag more a h e = absurd (cc)
first_attributes name kept wanted.Style tail tag more a h e = ap (attributes_first (a ∷ kept)) e
first_attributes name kept wanted.All tail tag more a h e = ap (attributes_first (a ∷ kept)) e

-- a tag of which an attribute was kept comes first
comes_first : (name : List ℕ) (kept : List Attribute) (w : Wanted) (tail : List Source) (a : Attribute) → is_kept w ≡ true
    → given w name (a ∷ kept) ++ tail ≡ FromTag (record { name = name; attributes = a ∷ kept }) ∷ tail
comes_first name kept wanted.Nothing tail a h = absurd (cc)
comes_first name kept wanted.Style tail a h = refl
comes_first name kept wanted.All tail a h = refl

-- what is before a value, if its attribute is the first that is kept
before_it : (l : Lexer) (w : Wanted) (attribute : AskedName) (text : List ℕ) → l.mode ≡ BeforeAttributeValue → l.wanted ≡ w → l.keeps ≡ Some attribute → l.attributes.items ≡ []
    → remaining l text ≡ tag_with l.context l.opens w l.raw l.styled l.name.items ((record { name = asked_name attribute; value = (value_at (from is_not_white text)).value }) ∷ []) (attributes (value_at (from is_not_white text)).rest)
before_it l w attribute text mode is keeps none =
    ap (λ m. remaining_in m l text) mode
    ∙ ap (λ k. tags_with l (kept_if k l.attributes.items (value_at (from is_not_white text)).value) (attributes (value_at (from is_not_white text)).rest)) keeps
    ∙ ap (λ (before : List Attribute). tags_with l (before ++ (record { name = asked_name attribute; value = (value_at (from is_not_white text)).value }) ∷ []) (attributes (value_at (from is_not_white text)).rest)) none
    ∙ ap (λ v. tag_with l.context l.opens v l.raw l.styled l.name.items ((record { name = asked_name attribute; value = (value_at (from is_not_white text)).value }) ∷ []) (attributes (value_at (from is_not_white text)).rest)) is

found_later : (k : Context) (scope : Option Scope) (w : Wanted) (raw : Option RawElement) (styled : Bool) (name : List ℕ) (attribute : AskedName) (value : List ℕ) (found : Attributes) (tag : Tag) (more : List Source)
    → is_kept w ≡ true → tag_with k scope w raw styled name ((record { name = asked_name attribute; value = value }) ∷ []) found ≡ FromTag tag ∷ more
    → tag.attributes ≡ later_of w attribute value found
found_later k scope w raw styled name attribute value None tag more h e = absurd (cc)
found_later k scope w raw styled name attribute value (Some found) tag more h e =
    sym (first_attributes name (asked_attributes w found.0) w _ tag more (record { name = asked_name attribute; value = value }) h e)

found_none : (k : Context) (scope : Option Scope) (w : Wanted) (raw : Option RawElement) (styled : Bool) (name : List ℕ) (attribute : AskedName) (value : List ℕ) (found : Attributes)
    → is_kept w ≡ true → ((tag : Tag) (more : List Source) → ¬ (tag_with k scope w raw styled name ((record { name = asked_name attribute; value = value }) ∷ []) found ≡ FromTag tag ∷ more))
    → [] ≡ later_of w attribute value found
found_none k scope w raw styled name attribute value None h e = refl
found_none k scope w raw styled name attribute value (Some found) h e =
    absurd (e _ _ (comes_first name (asked_attributes w found.0) w _ (record { name = asked_name attribute; value = value }) h))

pub later_read : (l : Lexer) (w : Wanted) (attribute : AskedName) (text name : List ℕ) (kept : List Attribute) (more : List Source)
    → is_kept w ≡ true → l.mode ≡ BeforeAttributeValue → l.wanted ≡ w → l.keeps ≡ Some attribute → l.attributes.items ≡ []
    → remaining l text ≡ FromTag (record { name = name; attributes = kept }) ∷ more → kept ≡ later_at w attribute text
later_read l w attribute text name kept more h mode is keeps none e =
    found_later l.context l.opens w l.raw l.styled l.name.items attribute (value_at (from is_not_white text)).value (attributes (value_at (from is_not_white text)).rest) (record { name = name; attributes = kept }) more h
    (sym (before_it l w attribute text mode is keeps none) ∙ e)

pub later_cut : (l : Lexer) (w : Wanted) (attribute : AskedName) (text : List ℕ)
    → is_kept w ≡ true → l.mode ≡ BeforeAttributeValue → l.wanted ≡ w → l.keeps ≡ Some attribute → l.attributes.items ≡ []
    → ((tag : Tag) (more : List Source) → ¬ (remaining l text ≡ FromTag tag ∷ more)) → [] ≡ later_at w attribute text
later_cut l w attribute text h mode is keeps none e =
    found_none l.context l.opens w l.raw l.styled l.name.items attribute (value_at (from is_not_white text)).value (attributes (value_at (from is_not_white text)).rest) h
    (λ tag more is_first. e tag more (before_it l w attribute text mode is keeps none ∙ is_first))

-- ---- a byte more

pub read_on : (old step new : Lexer) (byte : ℕ) (text others left : List ℕ) (e : Ended) → text ≡ byte ∷ others → GivesTag (remaining old) byte e step → e ≡ ends.Nothing
    → LeavesTag (remaining step) others left new → remaining new left ≡ remaining old text
read_on old step new byte text others left e cut gives nothing leaves =
    ap (remaining new) (sym (append-nil left)) ∙ sym (leaves []) ∙ ap (remaining step) (append-nil others)
    ∙ ap (λ f. tag_ended f step ++ remaining step others) (sym nothing) ∙ sym (gives others) ∙ ap (remaining old) (sym cut)
