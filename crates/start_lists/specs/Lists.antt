-- What the addresses of a file are: of a list those of its lines, of HTML those of its links.
use Rattle.std.specs.Prelude.{◌≡◌, ◌≢◌, ◌+◌, ◌≤◌, ◌==◌, ℕ, Bool, true, List, [], ◌∷◌, All, IsSome, Option, None, Some, Result, Ok, Err, drop, option_map, slice_get, take, unwrap_or, if◌then◌else◌}
use Rattle.std.specs.List.{flat_map, slice_split}
use Rattle.std.specs.Option.{option_or}
use Rattle.std.specs.Str.{is_utf8}
use Rattle.address.specs.Address.{AddressText, is_robots_file, join_address}
use Rattle.address.specs.declared.fault.AddressFault.{AddressFault}
use Rattle.html_links.specs.Links.{Link, Links, leads_on, links_of_body, present}
use Rattle.html_links.specs.Values.{trimmed}
use Rattle.html_links.specs.declared.context.Syntax.TheVariants.{Html}
use Rattle.options.specs.Order.{read_start}
use Rattle.options.specs.Start.{with_scheme}
use Rattle.start_lists.specs.declared.lines.TheConstants.{MAX_LINES}
use Rattle.start_lists.specs.declared.fault.ListFault.{ListFault}
use Rattle.start_lists.specs.declared.fault.ListFault.TheVariants as fault

-- ---- what a text names

-- the address, if there is one
abbrev pub address_or_none : Result AddressText AddressFault → Option AddressText
address_or_none (Err why) = None
address_or_none (Ok address) = Some address

-- What an absolute URL names, or another text below this base. Https is an address if a proxy is given, or below an https base.
unfoldable pub resolved : Bool → Option AddressText → List ℕ → Option AddressText
resolved by_proxy None text = address_or_none (read_start by_proxy text)
resolved by_proxy (Some base) text = option_or (address_or_none (read_start by_proxy text)) (address_or_none (join_address base text))

-- a robots file is no start
abbrev pub unless_robots : Option AddressText → Option AddressText
unless_robots None = None
unless_robots (Some address) = if is_robots_file address then None else Some address

-- ---- lists

-- the lines of a text: what is between its line feeds
abbrev pub lines_of : List ℕ → List (List ℕ)
lines_of text = slice_split (λ byte. byte == 10) text

-- a line that names nothing: it is empty, or `#` begins it
abbrev pub is_passed : List ℕ → Bool
is_passed [] = true
is_passed (first ∷ rest) = first == 35

-- without a base a text is read as START is: `http` is its scheme if it has none
abbrev pub with_scheme_unless : Option AddressText → List ℕ → List ℕ
with_scheme_unless None text = with_scheme text
with_scheme_unless (Some base) text = text

-- what a line of a list names
unfoldable pub line_start : Bool → Option AddressText → List ℕ → Option AddressText
line_start by_proxy base line =
    if is_utf8 line then unless_robots (resolved by_proxy base (with_scheme_unless base line)) else None

-- the starts of a line, of which white at both ends is no part: one, or none if the line is passed over; or the line is bad
abbrev pub starts_of_line : Bool → Option AddressText → List ℕ → Option (List AddressText)
starts_of_line by_proxy base line =
    if is_passed (trimmed line) then Some [] else option_map (λ start. start ∷ []) (line_start by_proxy base (trimmed line))

-- no line of these is bad
abbrev pub AreGood : Bool → Option AddressText → List (List ℕ) → Type 0
AreGood by_proxy base lines = All (λ line. IsSome (starts_of_line by_proxy base line)) lines

-- the starts of lines, in their order
abbrev pub starts_of_lines : Bool → Option AddressText → List (List ℕ) → List AddressText
starts_of_lines by_proxy base lines = flat_map (λ line. unwrap_or (starts_of_line by_proxy base line) []) lines

-- these are the starts of a list: no line of it is bad, and after the last that it may have there are only empty ones
pub record IsList (by_proxy : Bool) (base : Option AddressText) (text : List ℕ) (starts : List AddressText) : Type 0 where
  pub good : AreGood by_proxy base (lines_of text)
  pub few : All (λ line. line ≡ []) (drop MAX_LINES (lines_of text))
  pub named : starts ≡ starts_of_lines by_proxy base (lines_of text)

-- the line of this number, counted from 1, is the first bad one
pub record IsFirstBad (by_proxy : Bool) (base : Option AddressText) (text : List ℕ) (number : ℕ) : Type 0 where
  pub place : ℕ
  pub line : List ℕ
  pub is : slice_get (lines_of text) place ≡ Some line
  pub good : AreGood by_proxy base (take place (lines_of text))
  pub bad : starts_of_line by_proxy base line ≡ None
  pub counted : number ≡ place + 1

-- a line that isn't empty has as many above it as a list may have
pub record IsLong (text : List ℕ) : Type 0 where
  pub place : ℕ
  pub line : List ℕ
  pub is : slice_get (lines_of text) place ≡ Some line
  pub some : line ≢ []
  pub many : MAX_LINES ≤ place

-- why a text is no list
abbrev pub IsNoList : Bool → Option AddressText → List ℕ → ListFault → Type 0
IsNoList by_proxy base text (fault.Line number) = IsFirstBad by_proxy base text number
IsNoList by_proxy base text fault.Long = IsLong text
IsNoList by_proxy base text wrong = wrong ≡ fault.Memory

-- ---- HTML

-- what the links of a document are joined to: what its first `base` names, or else this
abbrev pub base_of_document : Bool → Option AddressText → Option (List ℕ) → Option AddressText
base_of_document by_proxy base None = base
base_of_document by_proxy base (Some text) = option_or (resolved by_proxy base text) base

-- the start that a link names, if it is followed and names one
abbrev pub link_starts : Bool → Option AddressText → Link → List AddressText
link_starts by_proxy base link = if leads_on link.kind then present (unless_robots (resolved by_proxy base link.text)) else []

-- the starts of a document: what its links name, of which some may name nothing
abbrev pub starts_of_links : Bool → Option AddressText → Links → List AddressText
starts_of_links by_proxy base found = flat_map (link_starts by_proxy (base_of_document by_proxy base found.base)) found.links

abbrev pub html_starts : Bool → Option AddressText → List ℕ → List AddressText
html_starts by_proxy base body = starts_of_links by_proxy base (links_of_body Html body)
