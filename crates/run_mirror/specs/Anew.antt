-- A kept body with its links changed, so that they lead from its file where they led from its page.
use Rattle.std.specs.Prelude.{◌≡◌, ◌⊎◌, ℕ, Bool, true, false, List, [], ◌∷◌, Option, Some, None, All}
use Rattle.std.specs.Option.{unwrap_or}
use Rattle.address.specs.Address.{AddressText, join_address}
use Rattle.kept_bodies.specs.declared.body_kind.BodyKind.{BodyKind}
use Rattle.kept_bodies.specs.declared.body_kind.BodyKind.TheVariants.{Html, Sheet, Other}
use Rattle.fetcher.specs.declared.outcome.Outcome.{Outcome}
use Rattle.fetcher.specs.declared.outcome.Outcome.TheVariants as outcome
use Rattle.css_links.specs.References.{references}
use Rattle.css_links.specs.Rewriting as sheets
use Rattle.html_links.specs.Links.{links_of_body}
use Rattle.html_links.specs.declared.context.Syntax.{Syntax}
use Rattle.html_links.specs.declared.awaiting.ValueForm.{ValueForm}
use Rattle.html_links.specs.declared.awaiting.ValueForm.TheVariants as value
use Rattle.local_links.specs.Relative.{relative, resolve}
use Rattle.link_changes.specs.declared.form.Form.{Form}
use Rattle.link_changes.specs.declared.form.Form.TheVariants as form
use Rattle.link_changes.specs.Leading.{Page, named, destination}
use Rattle.link_changes.specs.Changing.{becomes, can_hold, holds_all, LeadsTo, IsKeptName}
use Rattle.page_links.specs.Rewriting.{IsAnew, AreChanged, AreReferencesChanged}
use Rattle.run_mirror.specs.Mirrors.{Kept, name_in, target_in, outcome_among}
use Rattle.run_mirror.specs.declared.anew.Anew.{Anew}
use Rattle.run_mirror.specs.declared.anew.Anew.TheVariants.{Same, Changed, Left}

-- ---- links

-- a kept page: what its run kept, its file, and the address to which its links are joined
pub record KeptPage : Type 0 where
  pub run : Kept
  pub file : List ℕ
  pub base : AddressText

-- what a link is written in
abbrev pub form_of : ValueForm → Form
form_of value.Address = form.Value
form_of value.Base = form.Value
form_of value.Set = form.Set
form_of value.Refresh = form.Refresh
form_of value.Sheet = form.Sheet
form_of value.Mention = form.Value

-- what a run kept of which nothing was kept
abbrev pub nothing_kept : Kept
nothing_kept = record { kept = []; names = []; records = [] }

-- of what the run kept, that to which links lead that are written so: to nothing, where a page only mentions a URL
abbrev pub kept_for : ValueForm → Kept → Kept
kept_for value.Address run = run
kept_for value.Base run = run
kept_for value.Set run = run
kept_for value.Refresh run = run
kept_for value.Sheet run = run
kept_for value.Mention run = nothing_kept

-- the page, of whose links those are meant that are written so
abbrev pub page_in : KeptPage → ValueForm → Page
page_in p f = record { file = p.file; base = p.base; form = form_of f; name = name_in (kept_for f p.run); target = target_in (kept_for f p.run) }

-- what a link becomes that is written so; the base becomes the file itself, and what is only mentioned its whole address, unless it is empty:
-- then it means the page
abbrev pub becomes_in : KeptPage → ValueForm → List ℕ → Option (List ℕ)
becomes_in p value.Address text = becomes (page_in p value.Address) text
becomes_in p value.Base text = Some (relative p.file p.file)
becomes_in p value.Set text = becomes (page_in p value.Set) text
becomes_in p value.Refresh text = becomes (page_in p value.Refresh) text
becomes_in p value.Sheet text = becomes (page_in p value.Sheet) text
becomes_in p value.Mention [] = None
becomes_in p value.Mention (b ∷ bs) = becomes (page_in p value.Mention) (b ∷ bs)

-- A link of that new text leads from the file where it led from the page by the old one, if no name of the run leads out of its folder;
-- values and sheets can hold whatever is written for it, sets and refreshes all but a few texts.
abbrev pub LeadsAlike : KeptPage → ValueForm → List ℕ → List ℕ → Type 0
LeadsAlike p f old new =
    All IsKeptName p.run.names → (holds_all (form_of f) ≡ true) ⊎ (can_hold (page_in p f) old ≡ true) → LeadsTo p.file (destination (page_in p f) old) new

-- the base leads to the file itself
abbrev pub LeadsToItself : KeptPage → List ℕ → Type 0
LeadsToItself p new = IsKeptName p.file → resolve p.file new ≡ p.file

-- what is known of a link that is written so, by its old text and its new one
abbrev pub Leads : KeptPage → ValueForm → List ℕ → List ℕ → Type 0
Leads p value.Address old new = LeadsAlike p value.Address old new
Leads p value.Base old new = LeadsToItself p new
Leads p value.Set old new = LeadsAlike p value.Set old new
Leads p value.Refresh old new = LeadsAlike p value.Refresh old new
Leads p value.Sheet old new = LeadsAlike p value.Sheet old new
Leads p value.Mention [] new = new ≡ []
Leads p value.Mention (b ∷ bs) new = LeadsAlike p value.Mention (b ∷ bs) new

-- ---- bodies

-- the base of a page at that address: what its first `base` names, or its own address (HTML Standard, section 2.4.3)
abbrev pub base_at : AddressText → Option (List ℕ) → AddressText
base_at at None = at
base_at at (Some text) = unwrap_or (named (join_address at text)) at

-- the other body is that page with its links changed, as it is read by that syntax: no other byte is another, and its links lead where they led
pub record IsPageAnew (p : KeptPage) (syntax : Syntax) (body other : List ℕ) : Type 0 where
  pub kept : IsAnew (becomes_in p) syntax body other
  pub links : AreChanged (becomes_in p) (Leads p) (links_of_body syntax body) (links_of_body syntax other)

-- the same of a style sheet
pub record IsSheetAnew (p : KeptPage) (body other : List ℕ) : Type 0 where
  pub kept : sheets.IsAnew (becomes_in p value.Sheet) body other
  pub links : AreReferencesChanged (becomes_in p value.Sheet) (Leads p value.Sheet) (references body) (references other)

-- the page of a run that is kept of that address as this file, and whose body is read by that syntax
abbrev pub page_at : Kept → AddressText → List ℕ → Syntax → List ℕ → KeptPage
page_at run at file syntax body = record { run = run; file = file; base = base_at at (links_of_body syntax body).base }

-- the sheet of a run that is kept of that address as this file
abbrev pub sheet_at : Kept → AddressText → List ℕ → KeptPage
sheet_at run at file = record { run = run; file = file; base = at }

-- whether links were looked for in the body of an outcome: a body with a content coding has none
abbrev pub is_read : Option Outcome → Bool
is_read None = false
is_read (Some (outcome.Page status edges)) = true
is_read (Some (outcome.Moved status target)) = false
is_read (Some (outcome.Leaf status)) = false
is_read (Some (outcome.Fault kind)) = false

-- what a body is of which links were looked for or not
abbrev pub kind_if : Bool → BodyKind → BodyKind
kind_if true kind = kind
kind_if false kind = Other

-- the other body is that one with its links changed, if it is of this kind
abbrev pub IsAnewAs : BodyKind → Kept → AddressText → List ℕ → List ℕ → List ℕ → Type 0
IsAnewAs Html run at file body other = (syntax : Syntax) × IsPageAnew (page_at run at file syntax body) syntax body other
IsAnewAs Sheet run at file body other = IsSheetAnew (sheet_at run at file) body other
IsAnewAs Other run at file body other = other ≡ body

-- The other body is that one with its links changed: that of a page of a run, which is kept of this address as this file. Of a body in
-- which the run looked for no links it is the same.
abbrev pub IsBodyAnew : Kept → AddressText → BodyKind → List ℕ → List ℕ → List ℕ → Type 0
IsBodyAnew run at kind file body other = IsAnewAs (kind_if (is_read (outcome_among run.records at)) kind) run at file body other

-- the bytes that an answer gives to the file of a body, if it gives any
abbrev pub given : List ℕ → Anew → Option (List ℕ)
given body Same = Some body
given body (Changed other) = Some other.items
given body Left = None

-- what an answer says of a body of that kind: nothing, if the file is left
abbrev pub IsAnswer : Kept → AddressText → BodyKind → List ℕ → List ℕ → Anew → Type 0
IsAnswer run at kind file body Same = IsBodyAnew run at kind file body body
IsAnswer run at kind file body (Changed other) = IsBodyAnew run at kind file body other.items
IsAnswer run at kind file body Left = Unit {0}
