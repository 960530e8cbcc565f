-- What a response answers: a page with its links, a redirect, or neither (RFC 9110, section 15.4; HTML Standard, section 2.4.3).
use Rattle.std.specs.Prelude.{ℕ, ◌&&◌, ◌||◌, ◌==◌, not, Bool, true, false, List, [], ◌∷◌, ◌++◌, take, Option, Some, None, Result, Ok, Err, if◌then◌else◌, codes}
use Rattle.std.specs.List.{before_first}
use Rattle.std.specs.Str.{is_utf8, str_eq_ignore_ascii_case}
use Rattle.httparse.specs.Grammar.{trim_ows}
use Rattle.address.specs.Address.{AddressText, join_address}
use Rattle.address.specs.declared.fault.AddressFault.{AddressFault}
use Rattle.html_links.specs.Links.{Link, Links, links_of_body}
use Rattle.html_links.specs.Rules.{takes, takes_text}
use Rattle.html_links.specs.declared.rules.LinkRules.{LinkRules}
use Rattle.html_links.specs.declared.context.Syntax.{Syntax}
use Rattle.html_links.specs.declared.context.Syntax.TheVariants as syntax
use Rattle.html_links.specs.declared.links.LinkKind.{LinkKind}
use Rattle.css_links.specs.References.{references}
use Rattle.html_links.specs.declared.links.LinkKind.TheVariants as link
use Rattle.response_reader.specs.Fields.{HeadParts}
use Rattle.response_reader.specs.Response.{ResponseParts}
use Rattle.kept_bodies.specs.Bodies.{BodyValue}
use Rattle.kept_bodies.specs.declared.body_kind.BodyKind.{BodyKind}
use Rattle.kept_bodies.specs.declared.body_kind.BodyKind.TheVariants.{Html, Sheet, Other}
use Rattle.response_answer.specs.declared.stage.TheConstants.{MAX_SCANNED}
use Rattle.fetcher.specs.Statuses.{is_redirect, is_successful}
use Rattle.fetcher.specs.declared.edge.Edge.{Edge}
use Rattle.fetcher.specs.declared.edge.EdgeKind.{EdgeKind}
use Rattle.fetcher.specs.declared.edge.EdgeKind.TheVariants as edge
use Rattle.fetcher.specs.declared.outcome.Outcome.{Outcome}
use Rattle.fetcher.specs.declared.outcome.Outcome.TheVariants.{Page, Moved, Leaf}

-- the address, unless there is none
abbrev pub address_or_none : Result AddressText AddressFault → Option AddressText
address_or_none (Ok address) = Some address
address_or_none (Err fault) = None

-- what bytes name from a base: an address, if they are text
unfoldable pub named_from : AddressText → List ℕ → Option AddressText
named_from base text = if is_utf8 text then address_or_none (join_address base text) else None

-- the same of a field's value, if there is one
abbrev pub named_by : AddressText → Option (List ℕ) → Option AddressText
named_by base None = None
named_by base (Some text) = named_from base text

-- the target of a response's redirect (RFC 9110, section 10.2.2)
abbrev pub target_of : AddressText → HeadParts → Option AddressText
target_of at head = if is_redirect head.status then named_by at head.location else None

-- the media type of a Content-Type field, without parameters (RFC 9110, section 8.3.1); 59 is the semicolon
abbrev pub media_type : List ℕ → List ℕ
media_type value = trim_ows (before_first (λ b. b == 59) value)

-- a media type of HTML
unfoldable pub is_html : List ℕ → Bool
is_html value =
    str_eq_ignore_ascii_case (media_type value) (codes "text/html")
    || str_eq_ignore_ascii_case (media_type value) (codes "application/xhtml+xml")

-- the field says HTML, or there is none
abbrev pub may_be_html : Option (List ℕ) → Bool
may_be_html None = true
may_be_html (Some value) = is_html value

-- the media type of HTML that is written as XML (RFC 3236)
unfoldable pub is_xhtml : List ℕ → Bool
is_xhtml value = str_eq_ignore_ascii_case (media_type value) (codes "application/xhtml+xml")

-- how a page with that field is read, or without one
abbrev pub syntax_by : Option (List ℕ) → Syntax
syntax_by None = syntax.Html
syntax_by (Some value) = if is_xhtml value then syntax.Xml else syntax.Html

-- how a page with this head is read (HTML Standard, section 14)
abbrev pub syntax_of : HeadParts → Syntax
syntax_of head = syntax_by head.content_type

-- a body of HTML, in which links are looked for
abbrev pub is_document : HeadParts → Bool
is_document head = is_successful head.status && not head.coded && may_be_html head.content_type

-- the media type of style sheets (RFC 2318)
unfoldable pub is_css : List ℕ → Bool
is_css value = str_eq_ignore_ascii_case (media_type value) (codes "text/css")

-- the field says that it is a style sheet
abbrev pub says_css : Option (List ℕ) → Bool
says_css None = false
says_css (Some value) = is_css value

-- a body that is a style sheet, whose references are looked for
abbrev pub is_sheet : HeadParts → Bool
is_sheet head = is_successful head.status && not head.coded && says_css head.content_type

-- how a page names what a link leads to, if it is followed
abbrev pub edge_kind : LinkKind → Option EdgeKind
edge_kind link.Link = Some edge.Link
edge_kind link.Inline = Some edge.Inline
edge_kind link.Mention = None

-- the edge of that kind to an address, if there are both
abbrev pub edge_to : Option EdgeKind → Option AddressText → List Edge
edge_to None target = []
edge_to (Some kind) None = []
edge_to (Some kind) (Some target) = record { target = target; kind = kind } ∷ []

-- the edge of a link, if it is taken and followed, and its text, joined to the base, is an address
abbrev pub edge_of : LinkRules → AddressText → Link → List Edge
edge_of rules base l = if takes rules l then edge_to (edge_kind l.kind) (address_or_none (join_address base l.text)) else []

-- the edges of links, in their order
unfoldable pub edges_from : LinkRules → AddressText → List Link → List Edge
edges_from rules base [] = []
edges_from rules base (l ∷ ls) = edge_of rules base l ++ edges_from rules base ls

-- the base, or the page's own address if there is none
abbrev pub base_or : AddressText → Option AddressText → AddressText
base_or at None = at
base_or at (Some base) = base

-- the base of a document: what its first `base` names, or its own address (HTML Standard, section 2.4.3)
abbrev pub document_base : AddressText → Option (List ℕ) → AddressText
document_base at None = at
document_base at (Some text) = base_or at (address_or_none (join_address at text))

-- the edges of a page: those of its links that are taken, and none if it asks that its links aren't followed and this is honoured
abbrev pub page_edges : LinkRules → AddressText → Links → List Edge
page_edges rules at found =
    if rules.robots && found.nofollow then [] else edges_from rules (document_base at found.base) found.links

-- the bytes of a body that are looked through for links
abbrev pub scanned_front : List ℕ → List ℕ
scanned_front body = take MAX_SCANNED body

-- the edge of a reference of a style sheet, which is in no element: what it leads to is shown
abbrev pub edge_of_reference : LinkRules → AddressText → List ℕ → List Edge
edge_of_reference rules at text = if takes_text rules text then edge_to (Some edge.Inline) (address_or_none (join_address at text)) else []

-- the edges of a style sheet: its references, joined to its own address (CSS Values and Units Level 3, section 3.4)
unfoldable pub sheet_edges : LinkRules → AddressText → List (List ℕ) → List Edge
sheet_edges rules at [] = []
sheet_edges rules at (t ∷ ts) = edge_of_reference rules at t ++ sheet_edges rules at ts

-- what a body that is no page of HTML answers: a style sheet is a page that shows what its references lead to
abbrev pub sheet_or_leaf : LinkRules → AddressText → ResponseParts → Outcome
sheet_or_leaf rules at r =
    if is_sheet r.head then Page r.head.status (sheet_edges rules at (references (scanned_front r.body))) else Leaf r.head.status

-- what a body that isn't a redirect's answers
abbrev pub page_or_leaf : LinkRules → AddressText → ResponseParts → Outcome
page_or_leaf rules at r =
    if is_document r.head then Page r.head.status (page_edges rules at (links_of_body (syntax_of r.head) (scanned_front r.body))) else sheet_or_leaf rules at r

abbrev pub outcome_by : LinkRules → AddressText → ResponseParts → Option AddressText → Outcome
outcome_by rules at r None = page_or_leaf rules at r
outcome_by rules at r (Some target) = Moved r.head.status target

-- what a response answers
abbrev pub digest_of : LinkRules → AddressText → ResponseParts → Outcome
digest_of rules at r = outcome_by rules at r (target_of at r.head)

-- the bytes that are kept of a response's body
abbrev pub kept_body : ℕ → List ℕ → List ℕ
kept_body status body = if is_successful status then body else []

-- what a body is by its Content-Type, whatever its coding (RFC 9110, section 8.3); without one it is HTML
abbrev pub kind_by : Option (List ℕ) → BodyKind
kind_by content_type = if may_be_html content_type then Html else (if says_css content_type then Sheet else Other)

-- what the body is that is kept of a response with this head
abbrev pub kind_of : HeadParts → BodyKind
kind_of head = if is_successful head.status then kind_by head.content_type else Other

-- the body that is kept of a response with this head
abbrev pub body_of : HeadParts → List ℕ → BodyValue
body_of head body = record { kind = kind_of head; bytes = kept_body head.status body }
