-- Places of values in a page: whatever text is there, it is read as the value of the same attribute of the same tag, and all else is read as
-- before (HTML Standard, sections 13.1.2.3 and 13.2.5.36 to 13.2.5.39).
use Rattle.std.specs.Prelude.{◌≡◌, ◌≢◌, ℕ, true, List, [], ◌∷◌, ◌++◌, Option, Some, None}
use Rattle.html_links.specs.Pieces.{Attribute, Source, from, is_not_white, is_quote, ends_bare_value}
use Rattle.html_links.specs.Pieces.Source.{FromTag, FromSheet}
use Rattle.css_links.specs.References.{Front, fed, ended}
use Rattle.html_links.specs.Markup.{value_at, valued, style, raw_text}
use Rattle.html_links.specs.Links.{Links, with_tags, links_of_body}
use Rattle.html_links.specs.declared.context.Syntax.{Syntax}

-- ---- values

-- After the `=` of an attribute, and after its quote if it has one, the text is the value, which these bytes end; after it comes this rest.
abbrev pub IsValue : List ℕ → List ℕ → List ℕ → List ℕ → Type 0
IsValue quote value end rest = value_at (from is_not_white (quote ++ (value ++ end))) ≡ valued value rest

-- a text that can be a value in quotes of either kind and without quotes
pub record CanStand (value : List ℕ) : Type 0 where
  pub present : value ≢ []
  pub quoted : (quote : ℕ) (rest : List ℕ) → is_quote quote ≡ true → value_at (quote ∷ (value ++ quote ∷ rest)) ≡ valued value rest
  pub bare : (end : ℕ) (rest : List ℕ) → ends_bare_value end ≡ true → value_at (value ++ end ∷ rest) ≡ valued value (end ∷ rest)

-- A text is cut at the value at its front, into the quote if there is one, the value, and what ends it; any other text that can be a value
-- can be it.
pub record IsCut (text quote value end : List ℕ) : Type 0 where
  pub bytes : text ≡ quote ++ (value ++ end)
  pub rest : List ℕ
  pub is : IsValue quote value end rest
  pub others : (other : List ℕ) → CanStand other → IsValue quote other end rest

-- ---- places

-- What results from a tag of that element, after these of its attributes an attribute of that name and value, and what follows: its other
-- attributes, and what results from the rest of the page. Nothing, if the end of the page cuts the tag.
abbrev pub tag_with : List ℕ → List Attribute → List ℕ → Option (List Attribute × List Source) → List ℕ → List Source
tag_with element before attribute None value = []
tag_with element before attribute (Some behind) value =
    FromTag (record { name = element; attributes = before ++ (record { name = attribute; value = value } ∷ behind.0) }) ∷ behind.1

-- Between these bytes of a page is the place of a value of that attribute of a tag of that element: whatever value is there, the page's
-- links are those of what is before the tag, of the tag with that value, and of what follows it.
pub record IsPlace (syntax : Syntax) (front quote end rest element : List ℕ) (before : List Attribute) (attribute : List ℕ) : Type 0 where
  pub found : Links
  pub behind : Option (List Attribute × List Source)
  pub links : (value : List ℕ) → IsValue quote value end rest
      → links_of_body syntax (front ++ (quote ++ (value ++ end))) ≡ with_tags found (tag_with element before attribute behind value)

-- ---- style sheets

-- the text up to the end of its `style` element, or of the page
abbrev pub IsSheetText : List ℕ → List ℕ → Type 0
IsSheetText text end = raw_text style (text ++ end) ≡ text

-- Between these bytes of a page is text of a `style` element up to its end, after this front of the sheet: whatever text is there, the page's
-- links are those of what is before the element's text, of the sheet with that text, and of what follows it.
pub record IsSheetPlace (syntax : Syntax) (front end : List ℕ) : Type 0 where
  pub found : Links
  pub before : Front
  pub behind : List Source
  pub links : (text : List ℕ) → IsSheetText text end → links_of_body syntax (front ++ (text ++ end)) ≡ with_tags found (FromSheet (ended (fed before text)) ∷ behind)
