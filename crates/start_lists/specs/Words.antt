-- How the file of starts that words name is read, and the words with its starts before them.
use Rattle.std.specs.Prelude.{◌≡◌, ◌&&◌, ℕ, Bool, true, false, List, Option, None, Some, Result, Ok, Err, bytes_eq, codes, string_bytes, if◌then◌else◌}
use Rattle.address.specs.Address.{AddressText}
use Rattle.options.specs.Listed.{ListSaid}
use Rattle.options.specs.Start.{with_scheme}
use Rattle.options.specs.declared.order.Source.{Source}
use Rattle.options.specs.declared.order.Source.TheVariants.{Live}
use Rattle.start_lists.specs.Lists.{IsList, IsNoList, html_starts, resolved}
use Rattle.start_lists.specs.declared.fault.ListFault.{ListFault}
use Rattle.start_lists.specs.declared.fault.ListFault.TheVariants as fault
use Rattle.start_lists.specs.declared.words.FileOfStarts.{FileOfStarts}

-- the bytes of a text
abbrev pub Text : Type 0
Text = List ℕ

-- a start that takes the place of those of a file that isn't read yet
abbrev pub stand_in : Text
stand_in = codes "http://localhost/"

-- how a file of starts is read: its path, whether it is HTML, what it is relative to, and whether https is an address
pub record FileRead : Type 0 where
  pub path : Text
  pub is_html : Bool
  pub base : Option AddressText
  pub by_proxy : Bool

-- how this file is read
abbrev pub file_read : FileOfStarts → FileRead
file_read file = record { path = string_bytes file.path; is_html = file.is_html; base = file.base; by_proxy = file.by_proxy }

-- what is said to be the base is one, and is read as START is
abbrev pub based : Option AddressText → Result (Option AddressText) ListFault
based None = Err fault.Base
based (Some base) = Ok (Some base)

abbrev pub base_by : Bool → Option Text → Result (Option AddressText) ListFault
base_by by_proxy None = Ok None
base_by by_proxy (Some text) = based (resolved by_proxy None (with_scheme text))

-- standard input has the site
abbrev pub has_input : Source → Bool
has_input Live = false
has_input other = true

-- the path is that of standard input
abbrev pub is_input : Text → Bool
is_input path = bytes_eq path (codes "-")

abbrev pub read_with : ListSaid → Bool → Result (Option AddressText) ListFault → Result FileRead ListFault
read_with said by_proxy (Err why) = Err why
read_with said by_proxy (Ok base) = Ok (record { path = said.path; is_html = said.is_html; base = base; by_proxy = by_proxy })

-- how the file of starts that is said is read, by where the site is and whether there is a proxy; or why it isn't
abbrev pub file_of : ListSaid → Source → Bool → Result FileRead ListFault
file_of said source by_proxy =
    if is_input said.path && has_input source then Err fault.Input else read_with said by_proxy (base_by by_proxy said.base)

-- the starts of a file that is read so, with this text
abbrev pub HasStartsAs : Bool → FileRead → List ℕ → List AddressText → Type 0
HasStartsAs true file text starts = starts ≡ html_starts file.by_proxy file.base text
HasStartsAs false file text starts = IsList file.by_proxy file.base text starts

abbrev pub HasStarts : FileRead → List ℕ → List AddressText → Type 0
HasStarts file text starts = HasStartsAs file.is_html file text starts

-- why it gives none
abbrev pub IsNoFileAs : Bool → FileRead → List ℕ → ListFault → Type 0
IsNoFileAs true file text wrong = wrong ≡ fault.Memory
IsNoFileAs false file text wrong = IsNoList file.by_proxy file.base text wrong

abbrev pub IsNoFile : FileRead → List ℕ → ListFault → Type 0
IsNoFile file text wrong = IsNoFileAs file.is_html file text wrong
