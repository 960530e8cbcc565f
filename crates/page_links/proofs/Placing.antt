-- Places of values, and pages anew.
use Rattle.std.proofs.Common.{◌≡◌, inl, inr, ℕ, Bool, true, false, List, [], ◌∷◌, ◌++◌, Option, Some, None, if◌then◌else◌, refl, sym, ◌∙◌, ap, subst, append_assoc, append-nil}
use Rattle.css_links.specs.Rewriting as sheets
use Rattle.css_links.specs.References.{Front, step, fed, ended}
use Rattle.html_links.specs.Pieces.{Attribute, Source, from, is_not_white}
use Rattle.html_links.specs.Pieces.Source.{FromTag, FromSheet}
use Rattle.html_links.specs.Contexts.{Context, opened}
use Rattle.html_links.specs.Markup.{Attributes, attributes, value_at, valued, unless_closed, style, raw_text, is_close, behind_close}
use Rattle.html_links.specs.Links.{with_tags}
use Rattle.html_links.specs.Asked.{asked_name, asked_attributes, asked_tags, given}
use Rattle.html_links.specs.Lexing.{remaining, remaining_in, before_attribute_value, tags_with, tags_with_value, kept_if, behind_tag, sheet_from}
use Rattle.html_links.specs.Lexing as lexing
use Rattle.html_links.specs.Scanning.{ScanProgress, StandsFor}
use Rattle.html_links.specs.Awaiting.{Awaits, AwaitsValue, form_in, is_kept, later_of, later_by, later_at}
use Rattle.html_links.specs.declared.asked.AskedName.{AskedName}
use Rattle.html_links.specs.declared.asked.Wanted.{Wanted}
use Rattle.html_links.specs.declared.asked.Wanted.TheVariants as wanted
use Rattle.html_links.specs.declared.context.Scope.{Scope}
use Rattle.html_links.specs.declared.context.Syntax.{Syntax}
use Rattle.html_links.specs.declared.lexer.Lexer.{Lexer}
use Rattle.html_links.specs.declared.lexer.TokenizerState.TheVariants.{SheetText}
use Rattle.html_links.specs.declared.raw_element.RawElement.{RawElement}
use Rattle.html_links.specs.declared.awaiting.ValueForm.{ValueForm}
use Rattle.html_links.specs.declared.awaiting.ValueForm.TheVariants.{Sheet}
use Rattle.page_links.specs.Places.{IsValue, IsCut, IsPlace, IsSheetText, IsSheetPlace, tag_with}
use Rattle.page_links.specs.Rewriting.{Changes, IsWritten, IsAnew, IsAt, attributes_with}
use Rattle.page_links.proofs.Closing.{close_behind}

-- ---- places

-- a tag of which an attribute is kept is given
given_some : (w : Wanted) (name : List ℕ) (before : List Attribute) (a : Attribute) (others : List Attribute) → is_kept w ≡ true
    → given w name (before ++ a ∷ others) ≡ FromTag (record { name = name; attributes = before ++ a ∷ others }) ∷ []
given_some wanted.Nothing name before a others h = absurd (cc)
given_some wanted.Style name [] a others h = refl
given_some wanted.Style name (b ∷ before) a others h = refl
given_some wanted.All name [] a others h = refl
given_some wanted.All name (b ∷ before) a others h = refl

-- what follows the value: the other attributes that are kept, and what results from the rest
abbrev behind_of : Context → Option Scope → Wanted → Option RawElement → Bool → Attributes → Option (List Attribute × List Source)
behind_of k scope w raw styled None = None
behind_of k scope w raw styled (Some found) = Some (asked_attributes w found.0, behind_tag (opened scope found.1 k) raw (unless_closed found.1 styled) found.2)

tag_is : (k : Context) (scope : Option Scope) (w : Wanted) (raw : Option RawElement) (styled : Bool) (name : List ℕ) (before : List Attribute) (attribute value : List ℕ) (found : Attributes)
    → is_kept w ≡ true
    → lexing.tag_with k scope w raw styled name (before ++ (record { name = attribute; value = value }) ∷ []) found
    ≡ tag_with name before attribute (behind_of k scope w raw styled found) value
tag_is k scope w raw styled name before attribute value None h = refl
tag_is k scope w raw styled name before attribute value (Some found) h =
    let a : Attribute = record { name = attribute; value = value } in
    let tail = behind_tag (opened scope found.1 k) raw (unless_closed found.1 styled) found.2 in
    ap (λ (all : List Attribute). given w name all ++ tail) (append_assoc before (a ∷ []) (asked_attributes w found.0))
    ∙ ap (λ (xs : List Source). xs ++ tail) (given_some w name before a (asked_attributes w found.0) h)

-- what results from a value that is awaited
awaited : (l : Lexer) (attribute : AskedName) (text value rest : List ℕ) → AwaitsValue l attribute → value_at (from is_not_white text) ≡ valued value rest
    → remaining l text ≡ tag_with l.name.items l.attributes.items (asked_name attribute) (behind_of l.context l.opens l.wanted l.raw l.styled (attributes rest)) value
awaited l attribute text value rest h is =
    ap (λ mode. remaining_in mode l text) h.mode
    ∙ ap (λ found. tags_with_value l found) is
    ∙ ap (λ keeps. tags_with l (kept_if keeps l.attributes.items value) (attributes rest)) h.keeps
    ∙ tag_is l.context l.opens l.wanted l.raw l.styled l.name.items l.attributes.items (asked_name attribute) value (attributes rest) h.kept

pub placed : (syntax : Syntax) (s : ScanProgress) (front : List ℕ) (attribute : AskedName) (quote end rest : List ℕ) → StandsFor syntax s front → AwaitsValue s.lexer attribute
    → IsPlace syntax front quote end rest s.lexer.name.items s.lexer.attributes.items (asked_name attribute)
placed syntax s front attribute quote end rest stands h = record {
  found = s.found;
  behind = behind_of s.lexer.context s.lexer.opens s.lexer.wanted s.lexer.raw s.lexer.styled (attributes rest);
  links = λ value is. sym (stands.rest (quote ++ (value ++ end))) ∙ ap (with_tags s.found) (awaited s.lexer attribute (quote ++ (value ++ end)) value rest h is);
}

-- ---- style sheets

from_rest : (s : Front) (text : List ℕ) → sheet_from s text ≡ FromSheet (ended (fed s (raw_text style text))) ∷ []
from_rest s [] = refl
from_rest s (b ∷ bs) = go (is_close style (b ∷ bs)) (from_rest (step s b) bs) where
  go : (t : Bool) → sheet_from (step s b) bs ≡ FromSheet (ended (fed (step s b) (raw_text style bs))) ∷ []
      → (if t then FromSheet (ended s) ∷ [] else sheet_from (step s b) bs) ≡ FromSheet (ended (fed s (if t then [] else b ∷ raw_text style bs))) ∷ []
  go true h = refl
  go false h = h

pub sheet_placed : (syntax : Syntax) (s : ScanProgress) (front end : List ℕ) → StandsFor syntax s front → s.lexer.mode ≡ SheetText → IsSheetPlace syntax front end
sheet_placed syntax s front end stands mode = record {
  found = s.found;
  before = s.lexer.sheet.front;
  behind = asked_tags s.lexer.context (behind_close style end);
  links = λ text is.
      sym (stands.rest (text ++ end)) ∙ ap (λ m. with_tags s.found (remaining_in m s.lexer (text ++ end))) mode
      ∙ ap (λ (sheet : List Source). with_tags s.found (sheet ++ asked_tags s.lexer.context (behind_close style (text ++ end)))) (from_rest s.lexer.sheet.front (text ++ end))
      ∙ ap (λ (t : List ℕ). with_tags s.found (FromSheet (ended (fed s.lexer.sheet.front t)) ∷ asked_tags s.lexer.context (behind_close style (text ++ end)))) is
      ∙ ap (λ (t : List ℕ). with_tags s.found (FromSheet (ended (fed s.lexer.sheet.front text)) ∷ asked_tags s.lexer.context t)) (close_behind text end is);
}

-- ---- pages

pub anew_at : (changes : Changes) (syntax : Syntax) (page one other : List ℕ) → one ≡ other → IsAnew changes syntax page one → IsAnew changes syntax page other
anew_at changes syntax page one other e h = subst (λ (xs : List ℕ). IsAnew changes syntax page xs) e h

-- at the front of a page
pub begun : (changes : Changes) (syntax : Syntax) (page out : List ℕ) (s : ScanProgress) → out ≡ [] → StandsFor syntax s out → IsAt changes syntax page s out page
begun changes syntax page out s e stands = record { stands = stands; anew = record { between = []; one_by_one = ap (λ (xs : List ℕ). xs ++ page) e } }

-- bytes of the page as they are
pub copied : (changes : Changes) (syntax : Syntax) (page : List ℕ) (s t : ScanProgress) (out new left run rest : List ℕ) → left ≡ run ++ rest → new ≡ out ++ run
    → (StandsFor syntax s out → StandsFor syntax t new) → IsAt changes syntax page s out left → IsAt changes syntax page t new rest
copied changes syntax page s t out new left run rest cut is stands at = record {
  stands = stands at.stands;
  anew = anew_at changes syntax page (out ++ left) (new ++ rest) (ap (λ (xs : List ℕ). out ++ xs) cut ∙ sym (append_assoc out run rest) ∙ ap (λ (xs : List ℕ). xs ++ rest) (sym is)) at.anew;
}

-- the attributes of the tag of a value that is awaited
with_later : (k : Context) (scope : Option Scope) (w : Wanted) (raw : Option RawElement) (styled : Bool) (before : List Attribute) (attribute : AskedName) (value : List ℕ) (found : Attributes)
    → before ++ later_of w attribute value found ≡ attributes_with before (record { name = asked_name attribute; value = value }) (behind_of k scope w raw styled found)
with_later k scope w raw styled before attribute value None = append-nil before
with_later k scope w raw styled before attribute value (Some found) = refl

-- it is read so in its tag
in_tag : (l : Lexer) (attribute : AskedName) (left value rest : List ℕ) (form : ValueForm) → value_at (from is_not_white left) ≡ valued value rest
    → form_in l.name.items (l.attributes.items ++ later_at l.wanted attribute left) (asked_name attribute) ≡ Some form
    → form_in l.name.items (attributes_with l.attributes.items (record { name = asked_name attribute; value = value }) (behind_of l.context l.opens l.wanted l.raw l.styled (attributes rest))) (asked_name attribute) ≡ Some form
in_tag l attribute left value rest form is e =
    ap (λ (all : List Attribute). form_in l.name.items all (asked_name attribute))
    (sym (with_later l.context l.opens l.wanted l.raw l.styled l.attributes.items attribute value (attributes rest)) ∙ ap (λ found. l.attributes.items ++ later_by l.wanted attribute found) (sym is))
    ∙ e

-- a value anew
pub one_anew : (changes : Changes) (syntax : Syntax) (page : List ℕ) (s t : ScanProgress) (out new left quote value end other : List ℕ) (form : ValueForm)
    → Awaits s left form → IsCut left quote value end → IsWritten changes form value other → new ≡ (out ++ quote) ++ other
    → (StandsFor syntax s out → StandsFor syntax t new) → IsAt changes syntax page s out left → IsAt changes syntax page t new end
unfolding placed
one_anew changes syntax page s t out new left quote value end other form awaits cut written is stands at = record {
  stands = stands at.stands;
  anew = record {
    between = (out ++ left) ∷ at.anew.between;
    one_by_one = (
      at.anew.one_by_one,
      inl (record {
        front = out;
        quote = quote;
        value = value;
        end = end;
        rest = cut.rest;
        element = s.lexer.name.items;
        before = s.lexer.attributes.items;
        attribute = asked_name awaits.attribute;
        form = form;
        old_bytes = ap (λ (xs : List ℕ). out ++ xs) cut.bytes;
        new_bytes = ap (λ (xs : List ℕ). xs ++ end) is ∙ append_assoc (out ++ quote) other end ∙ append_assoc out quote (other ++ end)
            ∙ ap (λ (xs : List ℕ). out ++ (quote ++ (xs ++ end))) written.anew;
        was = cut.is;
        is = subst (λ (xs : List ℕ). IsValue quote xs end cut.rest) written.anew (cut.others other written.stands);
        first = awaits.value.first;
        place = placed syntax s out awaits.attribute quote end cut.rest at.stands awaits.value;
        has_links = in_tag s.lexer awaits.attribute left value cut.rest form (ap (λ (xs : List ℕ). value_at (from is_not_white xs)) cut.bytes ∙ cut.is) awaits.form;
      }),
    );
  };
}

-- a style sheet anew
pub sheet_anew : (changes : Changes) (syntax : Syntax) (page : List ℕ) (s t : ScanProgress) (out new left sheet end other : List ℕ) → s.lexer.mode ≡ SheetText
    → left ≡ sheet ++ end → IsSheetText sheet end → other ≡ sheets.rewritten (changes Sheet) sheet → IsSheetText other end → new ≡ out ++ other
    → (StandsFor syntax s out → StandsFor syntax t new) → IsAt changes syntax page s out left → IsAt changes syntax page t new end
sheet_anew changes syntax page s t out new left sheet end other mode cut was anew fits is stands at = record {
  stands = stands at.stands;
  anew = record {
    between = (out ++ left) ∷ at.anew.between;
    one_by_one = (
      at.anew.one_by_one,
      inr (record {
        front = out;
        sheet = sheet;
        end = end;
        old_bytes = ap (λ (xs : List ℕ). out ++ xs) cut;
        new_bytes = ap (λ (xs : List ℕ). xs ++ end) is ∙ append_assoc out other end ∙ ap (λ (xs : List ℕ). out ++ (xs ++ end)) anew;
        was = was;
        is = subst (λ (xs : List ℕ). IsSheetText xs end) anew fits;
        place = sheet_placed syntax s out end at.stands mode;
      }),
    );
  };
}
