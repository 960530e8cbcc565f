-- A page with other links: its bytes are as before, except those of values that have links.
use Rattle.std.specs.Prelude.{◌≡◌, ◌⊎◌, ℕ, true, List, [], ◌∷◌, ◌++◌, Option, Some, None, option_map}
use Rattle.css_links.specs.Rewriting.{Change, changed}
use Rattle.css_links.specs.Rewriting as sheets
use Rattle.source_sets.specs.Rewriting as sets
use Rattle.refresh_links.specs.Rewriting as refresh
use Rattle.html_links.specs.Pieces.{Attribute, Source}
use Rattle.html_links.specs.Escaping.{escaped}
use Rattle.html_links.specs.Values.{value_text_of, written}
use Rattle.html_links.specs.Links.{Link, Links, links_of_body}
use Rattle.html_links.specs.Awaiting.{form_at, form_in}
use Rattle.html_links.specs.Scanning.{ScanProgress, StandsFor}
use Rattle.html_links.specs.declared.context.Syntax.{Syntax}
use Rattle.html_links.specs.declared.awaiting.ValueForm.{ValueForm}
use Rattle.html_links.specs.declared.awaiting.ValueForm.TheVariants.{Address, Base, Set, Refresh, Sheet, Mention}
use Rattle.page_links.specs.Unclear.{is_unclear}
use Rattle.page_links.specs.Places.{IsValue, CanStand, IsPlace, IsSheetText, IsSheetPlace}

-- ---- links

-- what a link becomes by what it is written in, and what the base becomes
abbrev pub Changes : Type 0
Changes = ValueForm → Change

-- the same, as it is held, for what is written in one form
pub record InOneForm (P : Type 0) : Type 0 where
  pub changes : P
  pub form : ValueForm

-- A link is another one with its text changed by the form of its place. What is known of each change, by form, old text and new text, is
-- known of it.
pub record IsLinkChanged (changes : Changes) (known : ValueForm → List ℕ → List ℕ → Type 0) (old new : Link) : Type 0 where
  pub kind : new.kind ≡ old.kind
  pub place : new.place ≡ old.place
  pub text : new.text ≡ changed (changes (form_at old.place)) old.text
  pub holds : known (form_at old.place) old.text new.text

-- A link is another one that stays, since its text may not be what is written.
pub record IsLinkLeft (old new : Link) : Type 0 where
  pub kind : new.kind ≡ old.kind
  pub place : new.place ≡ old.place
  pub text : new.text ≡ old.text
  pub unclear : is_unclear old.text ≡ true

-- these links are those, each changed, except some of which the text isn't clear
abbrev pub AreLinksChanged : Changes → (ValueForm → List ℕ → List ℕ → Type 0) → List Link → List Link → Type 0
AreLinksChanged changes known [] [] = Unit {0}
AreLinksChanged changes known [] (n ∷ new) = ⊥
AreLinksChanged changes known (o ∷ old) [] = ⊥
AreLinksChanged changes known (o ∷ old) (n ∷ new) = (IsLinkChanged changes known o n ⊎ IsLinkLeft o n) × AreLinksChanged changes known old new

-- these references are those, each changed
abbrev pub AreReferencesChanged : Change → (List ℕ → List ℕ → Type 0) → List (List ℕ) → List (List ℕ) → Type 0
AreReferencesChanged change known [] [] = Unit {0}
AreReferencesChanged change known [] (n ∷ new) = ⊥
AreReferencesChanged change known (o ∷ old) [] = ⊥
AreReferencesChanged change known (o ∷ old) (n ∷ new) = (n ≡ changed change o) × known o n × AreReferencesChanged change known old new

-- the links of a page are those of another one, each changed, and so is its base; the word on following is the same
pub record AreChanged (changes : Changes) (known : ValueForm → List ℕ → List ℕ → Type 0) (old new : Links) : Type 0 where
  pub base : new.base ≡ option_map (changed (changes Base)) old.base
  pub links : AreLinksChanged changes known old.links new.links
  pub nofollow : new.nofollow ≡ old.nofollow

-- ---- values

-- the text of a value of that form with its links changed
abbrev pub text_anew : Changes → ValueForm → List ℕ → List ℕ
text_anew changes Address text = changed (changes Address) text
text_anew changes Base text = changed (changes Base) text
text_anew changes Set text = sets.rewritten (changes Set) text
text_anew changes Refresh text = refresh.rewritten (changes Refresh) text
text_anew changes Sheet text = sheets.rewritten (changes Sheet) text
text_anew changes Mention text = changed (changes Mention) text

-- a value with its links changed, as it is written
abbrev pub value_anew : Changes → ValueForm → List ℕ → List ℕ
value_anew changes form value = escaped (text_anew changes form (value_text_of value))

-- that value, which can be a value
pub record IsWritten (changes : Changes) (form : ValueForm) (value other : List ℕ) : Type 0 where
  pub anew : other ≡ value_anew changes form value
  pub stands : CanStand other

-- ---- pages

-- the attributes of a tag: these, that one, and those that follow it if the end of the page doesn't cut the tag
abbrev pub attributes_with : List Attribute → Attribute → Option (List Attribute × List Source) → List Attribute
attributes_with before attribute None = before
attributes_with before attribute (Some behind) = before ++ (attribute ∷ behind.0)

-- A page is another one except for a value: at the place of the value of an attribute, the first of its name in its tag, that is the base or has
-- links by the link table and the attributes of the tag, it has the value with its links changed.
pub record IsOneAnew (changes : Changes) (syntax : Syntax) (old new : List ℕ) : Type 0 where
  pub front : List ℕ
  pub quote : List ℕ
  pub value : List ℕ
  pub end : List ℕ
  pub rest : List ℕ
  pub element : List ℕ
  pub before : List Attribute
  pub attribute : List ℕ
  pub form : ValueForm
  pub old_bytes : old ≡ front ++ (quote ++ (value ++ end))
  pub new_bytes : new ≡ front ++ (quote ++ (value_anew changes form value ++ end))
  pub was : IsValue quote value end rest
  pub is : IsValue quote (value_anew changes form value) end rest
  pub first : written attribute before ≡ None
  pub place : IsPlace syntax front quote end rest element before attribute
  pub has_links : form_in element (attributes_with before (record { name = attribute; value = value }) place.behind) attribute ≡ Some form

-- A page is another one except for the text of a `style` element, of which it has the references changed.
pub record IsSheetAnew (changes : Changes) (syntax : Syntax) (old new : List ℕ) : Type 0 where
  pub front : List ℕ
  pub sheet : List ℕ
  pub end : List ℕ
  pub old_bytes : old ≡ front ++ (sheet ++ end)
  pub new_bytes : new ≡ front ++ (sheets.rewritten (changes Sheet) sheet ++ end)
  pub was : IsSheetText sheet end
  pub is : IsSheetText (sheets.rewritten (changes Sheet) sheet) end
  pub place : IsSheetPlace syntax front end

-- a page, these after it from the last one back, and one at their end, of which each is the one before it except for a value or the text of a
-- `style` element
abbrev pub AreAnew : Changes → Syntax → List ℕ → List (List ℕ) → List ℕ → Type 0
AreAnew changes syntax page [] last = last ≡ page
AreAnew changes syntax page (one ∷ earlier) last = AreAnew changes syntax page earlier one × (IsOneAnew changes syntax one last ⊎ IsSheetAnew changes syntax one last)

-- The page is the other one except for values and style sheets, in which links were changed one after another.
pub record IsAnew (changes : Changes) (syntax : Syntax) (page other : List ℕ) : Type 0 where
  pub between : List (List ℕ)
  pub one_by_one : AreAnew changes syntax page between other

-- A page that is this one except for values and style sheets, of which the links aren't this one's, each changed.
pub record ReadsOtherwise (changes : Changes) (known : ValueForm → List ℕ → List ℕ → Type 0) (syntax : Syntax) (page : List ℕ) : Type 0 where
  pub written : List ℕ
  pub anew : IsAnew changes syntax page written
  pub differs : AreChanged changes known (links_of_body syntax page) (links_of_body syntax written) → ⊥

-- ---- how far a writer has come

-- The scanner has read what was written, which with what is left of the page is the page anew.
pub record IsAt (changes : Changes) (syntax : Syntax) (page : List ℕ) (scanner : ScanProgress) (out left : List ℕ) : Type 0 where
  pub stands : StandsFor syntax scanner out
  pub anew : IsAnew changes syntax page (out ++ left)
