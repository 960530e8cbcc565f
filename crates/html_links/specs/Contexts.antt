-- What is open at a tag, as far as it matters for links: the tree construction of the HTML Standard (section 13.2.6), narrowed.
--
-- Within `svg` and `math` (foreign content, section 13.2.6.5) no element begins raw text, `/>` ends an element, and a CDATA section is
-- text; within an integration point the rules of HTML hold again. In XML (Extensible Markup Language 1.0, sections 2.7 and 3.1) they
-- hold nowhere.
--
-- Followed are the elements `svg` and `math`, their integration points, and the tags that end foreign content. Other elements aren't
-- counted, so that an end tag ends the innermost of the counted ones if that has its name, and nothing otherwise. Attributes aren't
-- looked at: a `font` never ends foreign content, and an `annotation-xml` is no integration point, so that a paragraph in it ends the
-- `math`. An `svg` or `math` within the other has its own integration points, which by the standard it has in an `annotation-xml` alone.
use Rattle.std.specs.Prelude.{ℕ, Bool, true, false, ◌||◌, List, [], ◌∷◌, Option, Some, None, if◌then◌else◌, codes}
use Rattle.std.specs.Str.{bytes_eq}
use Rattle.std.specs.List.{list_any}
use Rattle.html_links.specs.declared.context.Syntax.{Syntax}
use Rattle.html_links.specs.declared.context.Syntax.TheVariants as syntax
use Rattle.html_links.specs.declared.context.Scope.{Scope}
use Rattle.html_links.specs.declared.context.Scope.TheVariants.{Svg, Math, ForeignObject, Desc, Title, Mi, Mo, Mn, Ms, Mtext}

-- how a body is read, and which of the counted elements are open, the innermost first
pub record Context : Type 0 where
  pub syntax : Syntax
  pub scopes : List Scope

abbrev pub is_xml : Syntax → Bool
is_xml syntax.Html = false
is_xml syntax.Xml = true

-- at the front of a body
abbrev pub outermost : Syntax → Context
outermost s = record { syntax = s; scopes = [] }

-- the elements' names, in lower case
abbrev pub scope_name : Scope → List ℕ
scope_name Svg = codes "svg"
scope_name Math = codes "math"
scope_name ForeignObject = codes "foreignobject"
scope_name Desc = codes "desc"
scope_name Title = codes "title"
scope_name Mi = codes "mi"
scope_name Mo = codes "mo"
scope_name Mn = codes "mn"
scope_name Ms = codes "ms"
scope_name Mtext = codes "mtext"

-- whether the content of the element is foreign; otherwise it is an integration point
abbrev pub is_foreign : Scope → Bool
is_foreign Svg = true
is_foreign Math = true
is_foreign point = false

-- the innermost of these elements
abbrev pub innermost : List Scope → Option Scope
innermost [] = None
innermost (s ∷ others) = Some s

-- those around it
abbrev pub outer : List Scope → List Scope
outer [] = []
outer (s ∷ others) = others

-- whether the rules of HTML hold within that element, or outside of all
abbrev pub is_html_within : Option Scope → Bool
is_html_within None = true
is_html_within (Some s) = if is_foreign s then false else true

-- whether the rules of HTML hold
abbrev pub reads_html : Context → Bool
reads_html k = if is_xml k.syntax then false else is_html_within (innermost k.scopes)

-- ---- start tags

-- the counted elements that a start tag may open within that element, or outside of all
abbrev pub openers : Option Scope → List Scope
openers (Some Svg) = Svg ∷ Math ∷ ForeignObject ∷ Desc ∷ Title ∷ []
openers (Some Math) = Svg ∷ Math ∷ Mi ∷ Mo ∷ Mn ∷ Ms ∷ Mtext ∷ []
openers other = Svg ∷ Math ∷ []

-- the first of these that has that name
abbrev pub named_scope : List ℕ → List Scope → Option Scope
named_scope name [] = None
named_scope name (s ∷ others) = if bytes_eq name (scope_name s) then Some s else named_scope name others

-- the counted element that a start tag of that name opens, if any
abbrev pub opens : List ℕ → Context → Option Scope
opens name k = if is_xml k.syntax then None else named_scope name (openers (innermost k.scopes))

-- names of start tags that end foreign content (section 13.2.6.5)
abbrev pub breakouts : List (List ℕ)
breakouts =
    codes "b" ∷ codes "big" ∷ codes "blockquote" ∷ codes "body" ∷ codes "br" ∷ codes "center" ∷ codes "code" ∷ codes "dd" ∷ codes "div" ∷ codes "dl" ∷ codes "dt"
    ∷ codes "em" ∷ codes "embed" ∷ codes "h1" ∷ codes "h2" ∷ codes "h3" ∷ codes "h4" ∷ codes "h5" ∷ codes "h6" ∷ codes "head" ∷ codes "hr" ∷ codes "i" ∷ codes "img"
    ∷ codes "li" ∷ codes "listing" ∷ codes "menu" ∷ codes "meta" ∷ codes "nobr" ∷ codes "ol" ∷ codes "p" ∷ codes "pre" ∷ codes "ruby" ∷ codes "s" ∷ codes "small"
    ∷ codes "span" ∷ codes "strong" ∷ codes "strike" ∷ codes "sub" ∷ codes "sup" ∷ codes "table" ∷ codes "tt" ∷ codes "u" ∷ codes "ul" ∷ codes "var" ∷ []

-- these elements without the foreign ones that are innermost
abbrev pub without_foreign : List Scope → List Scope
without_foreign [] = []
without_foreign (s ∷ others) = if is_foreign s then without_foreign others else s ∷ others

-- what is open at the end of a start tag's name: less, if it ends foreign content
unfoldable pub broken : List ℕ → Context → Context
broken name k = if list_any (λ b. bytes_eq name b) breakouts then record k { scopes = without_foreign k.scopes } else k

-- what is open after a start tag that may open an element, and that `/>` ends or not
abbrev pub opened : Option Scope → Bool → Context → Context
opened None closed k = k
opened (Some s) true k = k
opened (Some s) false k = record k { scopes = s ∷ k.scopes }

-- what is open after a start tag of that name, which `/>` ends or not
abbrev pub entered : List ℕ → Bool → Context → Context
entered name closed k = opened (opens name k) closed (broken name k)

-- ---- end tags

-- whether that is an element of that name
abbrev pub is_scope : List ℕ → Option Scope → Bool
is_scope name None = false
is_scope name (Some s) = bytes_eq name (scope_name s)

-- what is open after an end tag of that name; `p` and `br` end foreign content (section 13.2.6.5)
unfoldable pub left : List ℕ → Context → Context
left name k =
    if bytes_eq name (codes "p") || bytes_eq name (codes "br") then record k { scopes = without_foreign k.scopes }
    else if is_scope name (innermost k.scopes) then record k { scopes = outer k.scopes }
    else k
