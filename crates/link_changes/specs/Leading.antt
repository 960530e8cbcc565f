-- Where a link leads: from its page on the web (URL Standard, section 4.4), and from the page's file in the mirror (RFC 3986,
-- sections 4.1 to 4.4).
use Rattle.std.specs.Prelude.{ℕ, ◌+◌, zero, suc, Bool, true, false, not, ◌==◌, ◌&&◌, ◌||◌, List, [], ◌∷◌, Option, Some, None, Result, Ok, Err, if◌then◌else◌, codes}
use Rattle.std.specs.Option.{is_some, option_or, option_and_then}
use Rattle.std.specs.Char.{to_ascii_lowercase}
use Rattle.percent_encoding.specs.Percent.{percent_encode}
use Rattle.address.specs.Address.{AddressText, join_address}
use Rattle.address.specs.declared.fault.AddressFault.{AddressFault}
use Rattle.local_links.specs.Relative.{resolve}
use Rattle.link_changes.specs.declared.form.Form.{Form}
use Rattle.link_changes.specs.declared.form.Form.TheVariants.{Value, Sheet, Set, Refresh}
use Rattle.link_changes.specs.declared.fragment.TheConstants.{FRAGMENT}
use Rattle.link_changes.specs.declared.links.TheConstants.{MAX_REDIRECTS}

-- A page whose links change: its file in the mirror, the address that they are joined to, what they are written in, and of the run
-- the local name of what was kept of an address, and the address to which one redirected.
pub record Page : Type 0 where
  pub file : List ℕ
  pub base : AddressText
  pub form : Form
  pub name : AddressText → Option (List ℕ)
  pub target : AddressText → Option AddressText

-- the same with what the run kept, as it is held
pub record Linked (M : Type 0) : Type 0 where
  pub file : List ℕ
  pub base : AddressText
  pub form : Form
  pub mirror : M

-- the page of it, by what that says of names and redirects
abbrev pub page_of : {M : Type 0} → (M → AddressText → Option (List ℕ)) → (M → AddressText → Option AddressText) → Linked M → Page
page_of name target l = record { file = l.file; base = l.base; form = l.form; name = name l.mirror; target = target l.mirror }

-- where a link leads: to a file of the mirror or to an address, each with a fragment, from its `#` on, or nothing; or to what its
-- text says wherever it is
pub data Destination : Type 0 where
  File : List ℕ → List ℕ → Destination
  Web : AddressText → List ℕ → Destination
  Other : List ℕ → Destination

-- ---- texts

-- a text before its first `#`
abbrev pub before_mark : List ℕ → List ℕ
before_mark [] = []
before_mark (b ∷ bs) = if b == 35 then [] else b ∷ before_mark bs

-- a text from its first `#` on
abbrev pub from_mark : List ℕ → List ℕ
from_mark [] = []
from_mark (b ∷ bs) = if b == 35 then b ∷ bs else from_mark bs

-- its fragment: bytes of the URL Standard's fragment percent-encode set are escaped, all others are as they were
unfoldable pub fragment_of : List ℕ → List ℕ
fragment_of text = percent_encode FRAGMENT (from_mark text)

-- it begins with `#`
abbrev pub begins_mark : List ℕ → Bool
begins_mark [] = false
begins_mark (b ∷ bs) = b == 35

-- it names the own document or a part of it (RFC 3986, section 4.4)
abbrev pub is_own : List ℕ → Bool
is_own [] = true
is_own (b ∷ bs) = b == 35

-- it begins with a scheme: a `:` comes before any `/` (RFC 3986, section 4.2)
abbrev pub has_scheme : List ℕ → Bool
has_scheme [] = false
has_scheme (b ∷ bs) = if b == 58 then true else if b == 47 then false else has_scheme bs

-- ---- whole addresses

-- these bytes are at its front, its letters in any case
abbrev pub begins_as : List ℕ → List ℕ → Bool
begins_as [] text = true
begins_as (x ∷ xs) [] = false
begins_as (x ∷ xs) (b ∷ bs) = if to_ascii_lowercase b == x then begins_as xs bs else false

-- it has a scheme and a host of its own
abbrev pub is_whole : List ℕ → Bool
is_whole text = begins_as (codes "http://") text || begins_as (codes "https://") text

-- ---- from the page

-- the address, if the text names one
abbrev pub named : Result AddressText AddressFault → Option AddressText
named (Ok address) = Some address
named (Err fault) = None

-- the local name of what was kept of an address, or of where its redirects lead, of which fewer than so many are followed
abbrev pub landed_within : ℕ → Page → AddressText → Option (List ℕ)
landed_within zero page address = None
landed_within (suc n) page address = option_or (page.name address) (option_and_then (landed_within n page) (page.target address))

-- the same, of as many as are followed
unfoldable pub landed : Page → AddressText → Option (List ℕ)
landed page address = landed_within (MAX_REDIRECTS + 1) page address

-- in a sheet `#a` is of the document, whatever the base is (CSS Values Level 4, section 4.5.1)
abbrev pub is_left : Form → List ℕ → Bool
is_left Value text = false
is_left Sheet text = begins_mark text
is_left Set text = false
is_left Refresh text = false

-- a text with a host of its own stays, if nothing was kept of the address
abbrev pub stays : Page → List ℕ → AddressText → Bool
stays page text address = is_whole text && not (is_some (landed page address))

-- that address, unless the text stays
abbrev pub unless_stays : Page → List ℕ → Option AddressText → Option AddressText
unless_stays page text None = None
unless_stays page text (Some address) = if stays page text address then None else Some address

-- the file of that name, or the address if there is none
abbrev pub at_end : Option (List ℕ) → AddressText → List ℕ → Destination
at_end (Some name) address fragment = File name fragment
at_end None address fragment = Web address fragment

-- the address that a text names, if the text may change
abbrev pub address_in : Page → List ℕ → Option AddressText
address_in page text = if is_left page.form text then None else unless_stays page text (named (join_address page.base text))

-- where a text leads that names this address, or none
abbrev pub destination_by : Page → Option AddressText → List ℕ → Destination
destination_by page (Some address) text = at_end (landed page address) address (fragment_of text)
destination_by page None text = Other text

-- where a link of that text leads from its page
abbrev pub destination : Page → List ℕ → Destination
destination page text = destination_by page (address_in page text) text

-- ---- from the file

-- where a text leads that has this before its first `#`, and that fragment
abbrev pub leads_by : List ℕ → List ℕ → List ℕ → Destination
leads_by file [] fragment = File file fragment
leads_by file (b ∷ bs) fragment = if has_scheme (b ∷ bs) then Web (b ∷ bs) fragment else File (resolve file (b ∷ bs)) fragment

-- where a link of that text leads from the file of that name: to the own document, to an address, or to a file
unfoldable pub leads : List ℕ → List ℕ → Destination
leads file text = leads_by file (before_mark text) (from_mark text)
