-- The standard's own names and samples hold of the definitions: links, raw text elements, character references, comments, foreign content (HTML Standard, sections 4.2.4, 4.6.1, 13.1.2, 13.1.4, 13.2.5 and 13.2.6.5).
use Rattle.std.proofs.Common.{◌≡◌, ℕ, Bool, List, [], ◌∷◌, ◌++◌, Option, Some, None, true, false, if◌then◌else◌, map, refl}
use Rattle.std.specs.Str.{bytes_eq}
use Rattle.std.specs.Prelude.{codes, filter}
use Rattle.html_links.specs.Pieces.{Source}
use Rattle.html_links.specs.Pieces.Source.{FromTag, FromSheet}
use Rattle.css_links.specs.References as sheets
use Rattle.std.specs.List.{flat_map, range_with_len}
use Rattle.html_links.specs.Contexts.{outermost, broken, left}
use Rattle.html_links.specs.declared.context.Syntax.{Syntax}
use Rattle.html_links.specs.declared.context.Syntax.TheVariants as syntax
use Rattle.html_links.specs.Markup.{is_raw, start_tags}
use Rattle.html_links.specs.Names.{rows_of}
use Rattle.html_links.specs.References.{Reference, reference_at, named_reference, referenced}
use Rattle.html_links.specs.Asked.{is_styling}
use Rattle.html_links.specs.Links.{Row, link_table, styling, kind_in, related, pressed, refreshed, is_robots, forbids}
use Rattle.html_links.specs.declared.links.LinkKind.{LinkKind}
use Rattle.html_links.specs.declared.links.LinkKind.TheVariants as kind
use Rattle.html_links.specs.declared.links.LinkPlace.TheVariants as place
use Rattle.html_links.specs.Rules.{all_links, all_rows, has_unknown, is_relative, takes_place, takes_row}

-- what the table has of an element of that name, in a tag without attributes that say more
abbrev leads_by : List ℕ → List Row → List (List ℕ × Option LinkKind)
leads_by name [] = []
leads_by name (r ∷ others) = if bytes_eq name r.element then ((r.attribute, kind_in [] r.form) ∷ leads_by name others) else leads_by name others

abbrev leads : List ℕ → List (List ℕ × Option LinkKind)
leads name = leads_by name link_table

abbrev shown : List ℕ → List (List ℕ × Option LinkKind)
shown attribute = (attribute, Some kind.Inline) ∷ []

-- other documents are linked to by `href`
links : map leads (codes "a" ∷ codes "area" ∷ codes "link" ∷ [])
    ≡ ((codes "href", Some kind.Link) ∷ (codes "xlink:href", Some kind.Link) ∷ [])
    ∷ ((codes "href", Some kind.Link) ∷ []) ∷ ((codes "href", Some kind.Link) ∷ (codes "imagesrcset", Some kind.Inline) ∷ []) ∷ []
unfolding link_table
links = refl

-- parts of a page are named by `src`, an `input` is one by its type alone
embedded : map leads (codes "iframe" ∷ codes "frame" ∷ codes "embed" ∷ codes "audio" ∷ codes "track" ∷ codes "input" ∷ [])
    ≡ shown (codes "src") ∷ shown (codes "src") ∷ shown (codes "src") ∷ shown (codes "src") ∷ shown (codes "src")
    ∷ ((codes "src", None) ∷ (codes "formaction", Some kind.Mention) ∷ []) ∷ []
unfolding link_table
embedded = refl

-- and by more than that
media : map leads (codes "img" ∷ codes "source" ∷ codes "video" ∷ codes "object" ∷ [])
    ≡ ((codes "src", Some kind.Inline) ∷ (codes "srcset", Some kind.Inline) ∷ (codes "longdesc", Some kind.Link) ∷ (codes "lowsrc", Some kind.Inline) ∷ [])
    ∷ ((codes "src", Some kind.Inline) ∷ (codes "srcset", Some kind.Inline) ∷ [])
    ∷ ((codes "src", Some kind.Inline) ∷ (codes "poster", Some kind.Inline) ∷ []) ∷ shown (codes "data") ∷ []
unfolding link_table
media = refl

-- or by `background`
painted : map leads (codes "body" ∷ codes "table" ∷ codes "tr" ∷ codes "td" ∷ codes "th" ∷ [])
    ≡ shown (codes "background") ∷ shown (codes "background") ∷ shown (codes "background") ∷ shown (codes "background") ∷ shown (codes "background") ∷ []
unfolding link_table
painted = refl

abbrev mentioned : List ℕ → List (List ℕ × Option LinkKind)
mentioned attribute = (attribute, Some kind.Mention) ∷ []

-- where forms are sent, and what is cited, is mentioned alone
mentions : map leads (codes "form" ∷ codes "button" ∷ codes "blockquote" ∷ codes "q" ∷ codes "del" ∷ codes "ins" ∷ [])
    ≡ mentioned (codes "action") ∷ mentioned (codes "formaction") ∷ mentioned (codes "cite") ∷ mentioned (codes "cite") ∷ mentioned (codes "cite") ∷ mentioned (codes "cite") ∷ []
unfolding link_table
mentions = refl

-- other elements lead nowhere
unlisted : map leads (codes "base" ∷ codes "svg" ∷ codes "abbr" ∷ codes "label" ∷ codes "picture" ∷ codes "p" ∷ [])
    ≡ [] ∷ [] ∷ [] ∷ [] ∷ [] ∷ [] ∷ []
unfolding link_table
unlisted = refl

-- words of `rel` by which a `link` is shown
relations : map (λ rel. related (Some rel)) (codes "stylesheet" ∷ codes "alternate StyleSheet" ∷ codes "shortcut icon" ∷ codes "ICON" ∷ codes "manifest" ∷ codes "preload" ∷ codes "modulepreload" ∷ codes "apple-touch-icon" ∷ codes "mask-icon" ∷ [])
    ≡ Some kind.Inline ∷ Some kind.Inline ∷ Some kind.Inline ∷ Some kind.Inline ∷ Some kind.Inline ∷ Some kind.Inline ∷ Some kind.Inline ∷ Some kind.Inline ∷ Some kind.Inline ∷ []
relations = refl

-- words by which it leads nowhere, and by which it is a link
other_relations : map (λ rel. related (Some rel)) (codes "dns-prefetch" ∷ codes "preconnect" ∷ codes "next" ∷ codes "stylesheets" ∷ codes "" ∷ [])
    ≡ None ∷ None ∷ Some kind.Link ∷ Some kind.Link ∷ Some kind.Link ∷ []
other_relations = refl

-- an `input` is shown if it is an image
buttons : map (λ word. pressed (Some word)) (codes "image" ∷ codes "IMAGE" ∷ codes "text" ∷ codes "" ∷ []) ≡ Some kind.Inline ∷ Some kind.Inline ∷ None ∷ None ∷ []
buttons = refl

-- a `meta` refreshes by the name of its header, in any case
refreshes : map (λ word. refreshed (Some word)) (codes "refresh" ∷ codes "Refresh" ∷ codes "refreshes" ∷ codes "content-type" ∷ []) ≡ Some kind.Link ∷ Some kind.Link ∷ None ∷ None ∷ []
refreshes = refl

-- words of a robots `meta` that forbid to follow
bans : map (λ content. forbids (Some content)) (codes "nofollow" ∷ codes "noindex, NoFollow" ∷ codes "NONE" ∷ codes "all" ∷ codes "nofollow noindex" ∷ [])
    ≡ true ∷ true ∷ true ∷ false ∷ false ∷ []
bans = refl

names_of_robots : map (λ name. is_robots (Some name)) (codes "robots" ∷ codes "ROBOTS" ∷ codes "robot" ∷ codes "googlebot" ∷ []) ≡ true ∷ true ∷ false ∷ false ∷ []
names_of_robots = refl

-- properties of SVG that may have a URL are read like a `style`, others aren't
styles : map is_styling (codes "style" ∷ codes "fill" ∷ codes "clip-path" ∷ codes "marker-mid" ∷ codes "marker" ∷ codes "mask-type" ∷ codes "fill-opacity" ∷ [])
    ≡ true ∷ true ∷ true ∷ true ∷ false ∷ false ∷ false ∷ []
unfolding is_styling styling
styles = refl

-- a row's number is its place in the table
numbered : map (λ r. r.number) link_table ≡ range_with_len 0 45
unfolding link_table
numbered = refl

-- rules that take all links take those of each row, and those of style sheets
all_taken : (robots : Bool) → map (λ r. takes_place (all_links robots).rows (place.Row r.number)) link_table ≡ map (λ _. true) link_table
unfolding link_table all_rows
all_taken robots = refl

all_of_sheets : (robots : Bool) → takes_place (all_links robots).rows place.Sheet ≡ true
unfolding all_rows
all_of_sheets robots = refl

-- texts that begin with neither a scheme nor `/`, and some that do
relative_texts : map is_relative (codes "a" ∷ codes "../b" ∷ codes "?x" ∷ codes "#f" ∷ codes "" ∷ codes "1:a" ∷ codes "./a:b" ∷ codes "a/b:c" ∷ codes "a b:c" ∷ [])
    ≡ true ∷ true ∷ true ∷ true ∷ true ∷ true ∷ true ∷ true ∷ true ∷ []
relative_texts = refl

other_texts : map is_relative (codes "/a" ∷ codes "//h/a" ∷ codes "http://h/" ∷ codes "HTTP:a" ∷ codes "a+b-1.c:" ∷ codes "mailto:a" ∷ codes "\\h\\a" ∷ codes " \t/a" ∷ codes "ht\ntp:a" ∷ [])
    ≡ false ∷ false ∷ false ∷ false ∷ false ∷ false ∷ false ∷ false ∷ false ∷ []
other_texts = refl

-- the rows that a list has taken, by their numbers
abbrev numbers : List ℕ → List ℕ → List ℕ
numbers followed ignored = map (λ r. r.number) (filter (takes_row followed ignored) link_table)

lists_of_names : numbers (codes "IMG/src,,area") [] ∷ numbers (codes "img") (codes "img/SRCSET,a") ∷ numbers (codes "picture") [] ∷ numbers (codes ",") (codes "t,h,a/href/") ∷ []
    ≡ (2 ∷ 13 ∷ []) ∷ (13 ∷ 15 ∷ 16 ∷ []) ∷ [] ∷ range_with_len 0 45 ∷ []
unfolding link_table
lists_of_names = refl

unknown_names : map has_unknown (codes "img/data-src" ∷ codes "a,/href" ∷ codes "picture,img/SRC" ∷ codes "style/x" ∷ codes "form/action" ∷ [] ∷ [])
    ≡ true ∷ true ∷ false ∷ true ∷ true ∷ false ∷ []
unfolding link_table
unknown_names = refl

-- elements whose content is text, and some whose isn't here
raw : map is_raw (codes "script" ∷ codes "style" ∷ codes "title" ∷ codes "textarea" ∷ codes "xmp" ∷ codes "noscript" ∷ codes "pre" ∷ [])
    ≡ true ∷ true ∷ true ∷ true ∷ true ∷ false ∷ false ∷ []
raw = refl

abbrev reference : ℕ → List ℕ → Option Reference
reference character rest = Some (record { character = character; rest = rest })

-- what follows an `&`
references : map reference_at (codes "amp;lt;" ∷ codes "lt;" ∷ codes "gt;x" ∷ codes "quot;" ∷ codes "#65;" ∷ codes "#xE9;" ∷ codes "#X1F600;" ∷ codes "#0000065;" ∷ [])
    ≡ reference 38 (codes "lt;") ∷ reference 60 [] ∷ reference 62 (codes "x") ∷ reference 34 [] ∷ reference 65 [] ∷ reference 233 []
    ∷ reference 128512 [] ∷ reference 65 [] ∷ []
unfolding reference_at
references = refl

-- what is no reference: a surrogate, above the last character, 0, too many digits, none
no_references : map reference_at (codes "#xD800;" ∷ codes "#x110000;" ∷ codes "#0;" ∷ codes "#00000065;" ∷ codes "#x0000041;" ∷ codes "#;" ∷ codes "#x;" ∷ [])
    ≡ None ∷ None ∷ None ∷ None ∷ None ∷ None ∷ None ∷ []
unfolding reference_at
no_references = refl

-- by its name: of Latin-1 with or without `;`, and others
named_references : map named_reference (codes "eacute;.html" ∷ codes "copy x" ∷ codes "AMP" ∷ codes "frac14;" ∷ codes "thetasym;" ∷ codes "rang;" ∷ codes "apos;" ∷ [])
    ≡ reference 233 (codes ".html") ∷ reference 169 (codes " x") ∷ reference 38 [] ∷ reference 188 [] ∷ reference 977 [] ∷ reference 10217 [] ∷ reference 39 [] ∷ []
unfolding named_reference rows_of
named_references = refl

-- a name of which a part is another one, before `=`, without the `;` that it needs, of another case, and none
no_named_references : map named_reference (codes "notit;" ∷ codes "copy=1" ∷ codes "hellip" ∷ codes "apos" ∷ codes "Eacut;" ∷ codes "Nbsp;" ∷ codes ";" ∷ [])
    ≡ None ∷ None ∷ None ∷ None ∷ None ∷ None ∷ None ∷ []
unfolding named_reference rows_of
no_named_references = refl

abbrev bare : List ℕ → List Source
bare name = FromTag (record { name = name; attributes = [] }) ∷ []

-- start tags alone are tags, a comment ends at `-->`, and a script's content has none
samples : map (start_tags (outermost syntax.Html)) (codes "a<B>" ∷ codes "</b>" ∷ codes "<b" ∷ codes "< b>" ∷ codes "<!--<b>--><i>" ∷ codes "<!-- -- ><b>" ∷ codes "<!b><i>" ∷ codes "<?b><i>" ∷ codes "</ b><i>" ∷ codes "<title><b></title ><i>" ∷ codes "<xmp><b></xm></xmp><i>" ∷ [])
    ≡ bare (codes "b") ∷ [] ∷ [] ∷ [] ∷ bare (codes "i") ∷ [] ∷ bare (codes "i") ∷ bare (codes "i") ∷ bare (codes "i")
    ∷ (FromTag (record { name = codes "title"; attributes = [] }) ∷ bare (codes "i")) ∷ (FromTag (record { name = codes "xmp"; attributes = [] }) ∷ bare (codes "i")) ∷ []
unfolding start_tags broken left
samples = refl

-- a style sheet is the text of a `style` element up to its end tag, in any case and whatever is in the text, or to the end of the body
abbrev styled : List ℕ → List Source
styled text = FromTag (record { name = codes "style"; attributes = [] }) ∷ FromSheet (sheets.references text) ∷ []

style_sheets : map (start_tags (outermost syntax.Html)) (codes "<style>a\"</b></STYLE\tc>d<i>" ∷ codes "<style></styles></style" ∷ codes "<style></styl</style>" ∷ codes "<style" ∷ [])
    ≡ (styled (codes "a\"</b>") ++ bare (codes "i")) ∷ styled (codes "</styles></style") ∷ styled (codes "</styl") ∷ [] ∷ []
unfolding start_tags broken left
style_sheets = refl

-- in foreign content and XML it is the text up to the next tag, without comments, of which references are replaced, but not in CDATA
foreign_sheets : map (start_tags (outermost syntax.Html)) (codes "<svg><style>a&lt;<!--b--><![CDATA[c&lt;]]]>d</style>e<i>" ∷ codes "<svg><style>a&am<?b>p; < c" ∷ codes "<svg><style/>a" ∷ codes "<svg><style><![CDATA[a]" ∷ [])
    ≡ (bare (codes "svg") ++ (styled (codes "a<c&lt;]d") ++ bare (codes "i"))) ∷ (bare (codes "svg") ++ styled (codes "a&amp; < c")) ∷ (bare (codes "svg") ++ bare (codes "style")) ∷ (bare (codes "svg") ++ styled (codes "a]")) ∷ []
unfolding start_tags broken left referenced reference_at lib.Utf8.encode named_reference rows_of
foreign_sheets = refl

xml_sheets : map (start_tags (outermost syntax.Xml)) (codes "<style>a<b>c</style>" ∷ codes "<style>a" ∷ codes "<style/>a" ∷ [])
    ≡ (styled (codes "a") ++ bare (codes "b")) ∷ styled (codes "a") ∷ bare (codes "style") ∷ []
unfolding start_tags broken left referenced
xml_sheets = refl

abbrev name_of : Source → List (List ℕ)
name_of (FromTag tag) = tag.name ∷ []
name_of (FromSheet _) = []

-- the names of the start tags of a text
abbrev names : Syntax → List ℕ → List (List ℕ)
names s text = flat_map name_of (start_tags (outermost s) text)

-- in foreign content no element begins raw text, until it ends, in an integration point, or after a tag that ends it
foreign : map (names syntax.Html) (codes "<svg><style><a></svg><style><a>" ∷ codes "<svg><desc><style><a>" ∷ codes "<svg><desc/><style><a>" ∷ codes "<math><mi><style><a></style></mi><style><a>" ∷ codes "<svg><p><style><a>" ∷ codes "<svg></p><style><a>" ∷ codes "<script/><a>" ∷ [])
    ≡ (codes "svg" ∷ codes "style" ∷ codes "a" ∷ codes "style" ∷ []) ∷ (codes "svg" ∷ codes "desc" ∷ codes "style" ∷ [])
    ∷ (codes "svg" ∷ codes "desc" ∷ codes "style" ∷ codes "a" ∷ []) ∷ (codes "math" ∷ codes "mi" ∷ codes "style" ∷ codes "style" ∷ codes "a" ∷ [])
    ∷ (codes "svg" ∷ codes "p" ∷ codes "style" ∷ []) ∷ (codes "svg" ∷ codes "style" ∷ []) ∷ (codes "script" ∷ []) ∷ []
unfolding start_tags broken left
foreign = refl

-- there and in XML a CDATA section is text
sections : map (names syntax.Html) (codes "<svg><![CDATA[<a>]]]><i>" ∷ codes "<svg><![CDATA<a><i>" ∷ codes "<![CDATA[<a>]]><i>" ∷ [])
    ≡ (codes "svg" ∷ codes "i" ∷ []) ∷ (codes "svg" ∷ codes "i" ∷ []) ∷ (codes "i" ∷ []) ∷ []
unfolding start_tags broken left
sections = refl

-- in XML no element begins raw text
xml : map (names syntax.Xml) (codes "<script/><a>" ∷ codes "<svg><desc><style><a>" ∷ codes "<![CDATA[<a>]]><i>" ∷ [])
    ≡ (codes "script" ∷ codes "a" ∷ []) ∷ (codes "svg" ∷ codes "desc" ∷ codes "style" ∷ codes "a" ∷ []) ∷ (codes "i" ∷ []) ∷ []
unfolding start_tags broken left
xml = refl
