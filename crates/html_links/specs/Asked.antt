-- What the rules ask of start tags: of other elements, and of other attributes, nothing has to be kept.
use Rattle.std.specs.Prelude.{ℕ, Bool, false, ◌||◌, List, [], ◌∷◌, ◌++◌, if◌then◌else◌, codes}
use Rattle.std.specs.Str.{bytes_eq}
use Rattle.std.specs.List.{list_any}
use Rattle.html_links.specs.Pieces.{Attribute, Source}
use Rattle.html_links.specs.Pieces.Source.{FromTag, FromSheet}
use Rattle.html_links.specs.Contexts.{Context}
use Rattle.html_links.specs.Markup.{start_tags}
use Rattle.html_links.specs.declared.asked.AskedName.{AskedName}
use Rattle.html_links.specs.declared.asked.AskedName.TheVariants.{Href, XlinkHref, Src, Background, LongDesc, LowSrc, Poster, Data, SrcSet, ImageSrcSet, Rel, OfType, HttpEquiv, Style, Name, Content, Fill, Stroke, Filter, Mask, ClipPath, Cursor, MarkerStart, MarkerMid, MarkerEnd, Action, FormAction, Cite}
use Rattle.html_links.specs.declared.asked.Wanted.{Wanted}
use Rattle.html_links.specs.declared.asked.Wanted.TheVariants as wanted
use Rattle.html_links.specs.Links.{link_table, styling}

-- elements that a rule names: those of the link table, `base` and `meta`
unfoldable pub is_asked_element : List ℕ → Bool
is_asked_element name = bytes_eq name (codes "base") || bytes_eq name (codes "meta") || list_any (λ row. bytes_eq name row.element) link_table

-- the names of attributes that a rule names
abbrev pub asked_name : AskedName → List ℕ
asked_name Href = codes "href"
asked_name XlinkHref = codes "xlink:href"
asked_name Src = codes "src"
asked_name Background = codes "background"
asked_name LongDesc = codes "longdesc"
asked_name LowSrc = codes "lowsrc"
asked_name Poster = codes "poster"
asked_name Data = codes "data"
asked_name SrcSet = codes "srcset"
asked_name ImageSrcSet = codes "imagesrcset"
asked_name Rel = codes "rel"
asked_name OfType = codes "type"
asked_name HttpEquiv = codes "http-equiv"
asked_name Style = codes "style"
asked_name Name = codes "name"
asked_name Content = codes "content"
asked_name Fill = codes "fill"
asked_name Stroke = codes "stroke"
asked_name Filter = codes "filter"
asked_name Mask = codes "mask"
asked_name ClipPath = codes "clip-path"
asked_name Cursor = codes "cursor"
asked_name MarkerStart = codes "marker-start"
asked_name MarkerMid = codes "marker-mid"
asked_name MarkerEnd = codes "marker-end"
asked_name Action = codes "action"
asked_name FormAction = codes "formaction"
asked_name Cite = codes "cite"

-- these attributes
abbrev pub asked_names : List AskedName
asked_names =
    Href ∷ XlinkHref ∷ Src ∷ Background ∷ LongDesc ∷ LowSrc ∷ Poster ∷ Data ∷ SrcSet ∷ ImageSrcSet ∷ Rel ∷ OfType ∷ HttpEquiv ∷ Style ∷ Name ∷ Content
    ∷ Fill ∷ Stroke ∷ Filter ∷ Mask ∷ ClipPath ∷ Cursor ∷ MarkerStart ∷ MarkerMid ∷ MarkerEnd ∷ Action ∷ FormAction ∷ Cite ∷ []

-- whether a rule names attributes of that name
abbrev pub is_asked_attribute : List ℕ → Bool
is_asked_attribute name = list_any (λ n. bytes_eq name (asked_name n)) asked_names

-- whether an attribute of that name is read like a style sheet
unfoldable pub is_styling : List ℕ → Bool
is_styling name = list_any (bytes_eq name) styling

-- whether an attribute of that name is kept
abbrev pub is_wanted : Wanted → List ℕ → Bool
is_wanted wanted.Nothing name = false
is_wanted wanted.Style name = is_styling name
is_wanted wanted.All name = is_asked_attribute name

-- what is kept of a start tag of that name: its style of any
abbrev pub wanted_of : List ℕ → Wanted
wanted_of name = if is_asked_element name then wanted.All else wanted.Style

-- those of a tag's attributes that are kept
abbrev pub asked_attributes : Wanted → List Attribute → List Attribute
asked_attributes w [] = []
asked_attributes w (a ∷ others) = if is_wanted w a.name then a ∷ asked_attributes w others else asked_attributes w others

-- a tag with the attributes that were kept; nothing, if none was
abbrev pub given : Wanted → List ℕ → List Attribute → List Source
given wanted.Nothing name kept = []
given wanted.Style name [] = []
given wanted.Style name (a ∷ others) = FromTag (record { name = name; attributes = a ∷ others }) ∷ []
given wanted.All name [] = []
given wanted.All name (a ∷ others) = FromTag (record { name = name; attributes = a ∷ others }) ∷ []

-- the tags that a rule names, with their attributes that a rule names, and the style sheets
abbrev pub asked : List Source → List Source
asked [] = []
asked (FromSheet references ∷ others) = FromSheet references ∷ asked others
asked (FromTag tag ∷ others) = given (wanted_of tag.name) tag.name (asked_attributes (wanted_of tag.name) tag.attributes) ++ asked others

-- those of a text
unfoldable pub asked_tags : Context → List ℕ → List Source
asked_tags k text = asked (start_tags k text)
