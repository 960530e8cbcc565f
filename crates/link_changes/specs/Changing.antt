-- What a link becomes.
use Rattle.std.specs.Prelude.{◌≡◌, ◌<◌, ℕ, Bool, true, false, not, ◌&&◌, ◌||◌, ◌==◌, nat_lt, List, [], ◌∷◌, ◌++◌, Option, Some, None, All, if◌then◌else◌}
use Rattle.std.specs.List.{list_all}
use Rattle.std.specs.Str.{bytes_eq}
use Rattle.address.specs.Address.{AddressText}
use Rattle.source_sets.specs.Rewriting.{ends_well}
use Rattle.refresh_links.specs.Rewriting.{is_unquoted, is_unequal}
use Rattle.local_links.specs.Relative.{relative}
use Rattle.local_names.specs.LocalNames.{StaysInside}
use Rattle.link_changes.specs.declared.form.Form.{Form}
use Rattle.link_changes.specs.declared.form.Form.TheVariants.{Value, Sheet, Set, Refresh}
use Rattle.link_changes.specs.Leading.{Page, Destination, File, Web, Other, destination, is_own, leads}

-- ---- its text

-- the way to a file: none from a reference of the own file to a part of it
abbrev pub way_to : Page → List ℕ → List ℕ → List ℕ
way_to page text name = if is_own text && bytes_eq name page.file then [] else relative page.file name

-- what is written for a text that leads there
abbrev pub text_at : Page → List ℕ → Destination → List ℕ
text_at page text (File name fragment) = way_to page text name ++ fragment
text_at page text (Web address fragment) = address ++ fragment
text_at page text (Other other) = other

-- what is written for a link
abbrev pub changed_text : Page → List ℕ → List ℕ
changed_text page text = text_at page text (destination page text)

-- ---- what can be written

-- visible ASCII
abbrev pub is_visible : ℕ → Bool
is_visible b = nat_lt 32 b && nat_lt b 127

-- a refresh has no quotes, begins neither with `;` nor with `,`, and if it begins with `u` has no `=`
abbrev pub fits_refresh : ℕ → List ℕ → Bool
fits_refresh b bs =
    is_unquoted b && list_all is_unquoted bs && not (b == 59) && not (b == 44) && (not (b == 117) && not (b == 85) || list_all is_unequal bs)

-- what each form wants besides
abbrev pub fits_in : Form → ℕ → List ℕ → Bool
fits_in Value b bs = true
fits_in Sheet b bs = true
fits_in Set b bs = not (b == 44) && ends_well b bs
fits_in Refresh b bs = fits_refresh b bs

-- the form can hold the text as a link
abbrev pub fits : Form → List ℕ → Bool
fits form [] = false
fits form (b ∷ bs) = is_visible b && list_all is_visible bs && fits_in form b bs

-- whether a form can hold whatever is written for a link
abbrev pub holds_all : Form → Bool
holds_all Value = true
holds_all Sheet = true
holds_all Set = false
holds_all Refresh = false

-- ---- the link

-- that text, if it is another and the form can hold it
abbrev pub to_other : Form → List ℕ → List ℕ → Option (List ℕ)
to_other form text other = if bytes_eq other text || not (fits form other) then None else Some other

-- what a link of that text becomes; nothing, if it stays
unfoldable pub becomes : Page → List ℕ → Option (List ℕ)
becomes page text = to_other page.form text (changed_text page text)

-- the form of the page can hold what is written for the link
abbrev pub can_hold : Page → List ℕ → Bool
can_hold page text = bytes_eq (changed_text page text) text || fits page.form (changed_text page text)

-- ---- what holds of it

-- the other text, or that one if there is none
abbrev pub or_same : Option (List ℕ) → List ℕ → List ℕ
or_same None text = text
or_same (Some other) text = other

-- from the file the text leads there; one that names no address is as it was
abbrev pub LeadsTo : List ℕ → Destination → List ℕ → Type 0
LeadsTo file (File name fragment) text = leads file text ≡ File name fragment
LeadsTo file (Web address fragment) text = leads file text ≡ Web address fragment
LeadsTo file (Other other) text = text ≡ other

-- a name of bytes that leads nowhere but below its folder
pub record IsKeptName (name : List ℕ) : Type 0 where
  pub inside : StaysInside name
  pub bytes : All (λ b. b < 256) name

-- all names of the run are such
abbrev pub IsMirror : Page → Type 0
IsMirror page = (address : AddressText) (name : List ℕ) → page.name address ≡ Some name → IsKeptName name
