-- The value that comes next, if it has links by the part of its tag that came (HTML Standard, sections 13.1.2.3 and 13.2.5.35).
use Rattle.std.specs.Prelude.{◌≡◌, ℕ, ◌≤◌, Bool, true, false, ◌&&◌, List, [], ◌∷◌, ◌++◌, Option, Some, None, length, get_or, if◌then◌else◌, codes}
use Rattle.std.specs.Str.{bytes_eq}
use Rattle.html_links.specs.Pieces.{Attribute, from, is_not_white}
use Rattle.html_links.specs.Markup.{Attributes, Value, attributes, value_at}
use Rattle.html_links.specs.Values.{written}
use Rattle.html_links.specs.Links.{Row, row, link_table, kind_in}
use Rattle.html_links.specs.Asked.{asked_name, asked_attributes, is_styling}
use Rattle.html_links.specs.Scanning.{ScanProgress}
use Rattle.html_links.specs.declared.asked.AskedName.{AskedName}
use Rattle.html_links.specs.declared.asked.Wanted.{Wanted}
use Rattle.html_links.specs.declared.asked.Wanted.TheVariants as wanted
use Rattle.html_links.specs.declared.links.LinkKind.{LinkKind}
use Rattle.html_links.specs.declared.links.LinkPlace.{LinkPlace}
use Rattle.html_links.specs.declared.links.LinkPlace.TheVariants as place
use Rattle.html_links.specs.declared.table.LinkForm.{LinkForm}
use Rattle.html_links.specs.declared.table.LinkForm.TheVariants as form
use Rattle.html_links.specs.declared.lexer.Lexer.{Lexer}
use Rattle.html_links.specs.declared.lexer.TokenizerState.TheVariants.{BeforeAttributeValue}
use Rattle.html_links.specs.declared.awaiting.ValueForm.{ValueForm}
use Rattle.html_links.specs.declared.awaiting.ValueForm.TheVariants.{Address, Base, Set, Refresh, Sheet, Mention}
use Rattle.html_links.specs.declared.lexer.awaiting.TheConstants.{MOST_BEFORE}

-- how a value of that form of the link table is read
abbrev pub read_as : LinkForm → ValueForm
read_as form.Link = Address
read_as form.Shown = Address
read_as form.Related = Address
read_as form.Button = Address
read_as form.Set = Set
read_as form.Refresh = Refresh
read_as form.Mention = Mention

-- how links are found in what is written there; a number that no row has counts for nothing
abbrev pub form_at : LinkPlace → ValueForm
form_at (place.Row n) = read_as (get_or link_table n (row 0 [] [] form.Link)).form
form_at place.Sheet = Sheet

-- the first of these rows that is of that element and that attribute
abbrev pub row_of : List ℕ → List ℕ → List Row → Option Row
row_of element attribute [] = None
row_of element attribute (r ∷ others) =
    if bytes_eq element r.element then (if bytes_eq attribute r.attribute then Some r else row_of element attribute others)
    else row_of element attribute others

-- how the value is read, if the row's form leads anywhere
abbrev pub read_if : LinkForm → Option LinkKind → Option ValueForm
read_if f None = None
read_if f (Some kind) = Some (read_as f)

-- how the value of an attribute is read, if it is read like a style sheet
abbrev pub styled_if : Bool → Option ValueForm
styled_if true = Some Sheet
styled_if false = None

-- how the value of an attribute of that name is read by that row, in a tag of these attributes, or else like a style sheet
abbrev pub read_by : List Attribute → List ℕ → Option Row → Option ValueForm
read_by attributes attribute (Some r) = read_if r.form (kind_in attributes r.form)
read_by attributes attribute None = styled_if (is_styling attribute)

-- whether an attribute of that name is the base that an element of that name names (section 4.2.3)
abbrev pub is_base : List ℕ → List ℕ → Bool
is_base element attribute = bytes_eq element (codes "base") && bytes_eq attribute (codes "href")

-- the base, or else that
abbrev pub base_or : Bool → Option ValueForm → Option ValueForm
base_or true other = Some Base
base_or false other = other

-- How the value of an attribute of that name is read in a tag of that element and these attributes; nothing, if it is neither the base
-- nor has links.
abbrev pub form_in : List ℕ → List Attribute → List ℕ → Option ValueForm
form_in element attributes attribute = base_or (is_base element attribute) (read_by attributes attribute (row_of element attribute link_table))

-- whether attributes of a tag are kept: of an end tag none is
abbrev pub is_kept : Wanted → Bool
is_kept wanted.Nothing = false
is_kept wanted.Style = true
is_kept wanted.All = true

-- The value that comes next is that of this attribute, the first of its name in a start tag.
pub record AwaitsValue (l : Lexer) (attribute : AskedName) : Type 0 where
  pub mode : l.mode ≡ BeforeAttributeValue
  pub keeps : l.keeps ≡ Some attribute
  pub kept : is_kept l.wanted ≡ true
  pub first : written (asked_name attribute) l.attributes.items ≡ None

-- the attribute of that value, and of these after it those that are kept; none, if the end of the text cuts the tag
abbrev pub later_of : Wanted → AskedName → List ℕ → Attributes → List Attribute
later_of w attribute value None = []
later_of w attribute value (Some found) = record { name = asked_name attribute; value = value } ∷ asked_attributes w found.0

-- the attribute of the value that was found, and those in what follows it
abbrev pub later_by : Wanted → AskedName → Value → List Attribute
later_by w attribute found = later_of w attribute found.value (attributes found.rest)

-- the attribute of the value at the front of a text, and those after it in its tag that are kept; none, if the end of the text cuts the tag
abbrev pub later_at : Wanted → AskedName → List ℕ → List Attribute
later_at w attribute text = later_by w attribute (value_at (from is_not_white text))

-- The value that comes next, at the front of this text, is that of the first attribute of its name in a start tag, and is read so by all
-- attributes of the tag.
pub record Awaits (s : ScanProgress) (text : List ℕ) (f : ValueForm) : Type 0 where
  pub attribute : AskedName
  pub value : AwaitsValue s.lexer attribute
  pub form : form_in s.lexer.name.items (s.lexer.attributes.items ++ later_at s.lexer.wanted attribute text) (asked_name attribute) ≡ Some f

-- no value is awaited, or too many attributes of the tag came before it
abbrev pub IsUnawaited : Lexer → Type 0
IsUnawaited l = (attribute : AskedName) → AwaitsValue l attribute → MOST_BEFORE ≤ length l.attributes.items

-- none that has links or is the base, or too many attributes of the tag came before it
abbrev pub AwaitsNothing : ScanProgress → List ℕ → Type 0
AwaitsNothing s text = (f : ValueForm) → Awaits s text f → MOST_BEFORE ≤ length s.lexer.attributes.items
