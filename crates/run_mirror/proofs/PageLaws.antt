-- What links of a kept page become leads where they led.
use Rattle.std.proofs.Common.{◌≡◌, ◌⊎◌, inl, inr, ℕ, true, false, Bool, List, [], ◌∷◌, Option, Some, None, All, refl, sym, ap, ◌∙◌, subst, if◌then◌else◌}
use Rattle.std.specs.Prelude.{◌==◌, length, bytes_eq, MatchOption, option_map}
use Rattle.std.specs.Option.{unwrap_or}
use Rattle.std.proofs.lemmas.List.Elements.{All-head, All-nil, All-tail, All-weaker}
use Rattle.std.specs.List.{slice_split}
use Rattle.address.specs.Address.{AddressText}
use Rattle.css_links.specs.References.{references}
use Rattle.css_links.specs.Rewriting as sheets
use Rattle.html_links.specs.Links.{Links, links_of_body}
use Rattle.html_links.specs.declared.context.Syntax.{Syntax}
use Rattle.html_links.specs.declared.awaiting.ValueForm.{ValueForm}
use Rattle.html_links.specs.declared.awaiting.ValueForm.TheVariants as value
use Rattle.local_links.specs.Relative.{is_slash, relative, resolve, LeadsDown}
use Rattle.local_links.proofs.RelativeLaws.{resolve_relative}
use Rattle.local_names.specs.LocalNames.{IsInner}
use Rattle.link_changes.specs.declared.form.Form.{Form}
use Rattle.link_changes.specs.Changing as changing
use Rattle.link_changes.specs.Changing.{becomes, can_hold, holds_all, LeadsTo, IsKeptName, IsMirror}
use Rattle.link_changes.specs.Leading.{Page, Linked, page_of, destination}
use Rattle.kept_bodies.specs.declared.body_kind.BodyKind.{BodyKind}
use Rattle.kept_bodies.specs.declared.body_kind.BodyKind.TheVariants as kinds
use Rattle.page_links.specs.Rewriting.{IsAnew, AreChanged, AreReferencesChanged}
use Rattle.run_mirror.specs.Mirrors.{Kept, name_among, name_in, target_in, outcome_among}
use Rattle.run_mirror.specs.Anew.{KeptPage, form_of, kept_for, page_in, becomes_in, Leads, LeadsAlike, IsPageAnew, IsSheetAnew, page_at, sheet_at, IsAnewAs, kind_if, is_read, IsAnswer, given}
use Rattle.run_mirror.specs.inner.Answers.{IsAnswerAs}
use Rattle.run_mirror.specs.declared.anew.Anew.{Anew}
use Rattle.run_mirror.specs.declared.anew.Anew.TheVariants.{Same, Changed, Left}

some_is : {X : Type 0} (x y : X) → Some x ≡ Some y → x ≡ y
some_is x y is = cc

-- what is said of a value that is there
pub some_held : {A : Type 0} (P : A → Type 0) (o : Option A) (x : A) → o ≡ Some x → MatchOption o (Unit {0}) P → P x
some_held P None x is held = cc
some_held P (Some y) x is held = subst P (some_is y x is) held

-- both say what a text becomes
pub same_or : (other : Option (List ℕ)) (text : List ℕ) → changing.or_same other text ≡ sheets.or_same other text
same_or None text = refl
same_or (Some other) text = refl

-- a name that is found is one of the names
name_kept : (kept : List AddressText) (names : List (List ℕ)) (u : AddressText) (name : List ℕ) → All IsKeptName names → name_among kept names u ≡ Some name → IsKeptName name
name_kept [] names u name all e = absurd (cc)
name_kept (page ∷ kept) [] u name all e = absurd (cc)
name_kept (page ∷ kept) (first ∷ names) u name all e = go (bytes_eq page u) e (name_kept kept names u name (All-tail IsKeptName first names all))
  where
    go : (t : Bool) → (if t then Some first else name_among kept names u) ≡ Some name → (name_among kept names u ≡ Some name → IsKeptName name) → IsKeptName name
    go true h later = subst IsKeptName (some_is first name h) (All-head IsKeptName first names all)
    go false h later = later h

-- so are those to which a link may lead
names_for : (f : ValueForm) (run : Kept) → All IsKeptName run.names → All IsKeptName (kept_for f run).names
names_for value.Address run all = all
names_for value.Base run all = all
names_for value.Set run all = all
names_for value.Refresh run all = all
names_for value.Sheet run all = all
names_for value.Mention run all = All-nil IsKeptName

pub is_mirror : (p : KeptPage) (f : ValueForm) → All IsKeptName p.run.names → IsMirror (page_in p f)
is_mirror p f all = λ address name e. name_kept (kept_for f p.run).kept (kept_for f p.run).names address name (names_for f p.run all) e

-- what is only mentioned, if it isn't empty, becomes what a link becomes of which nothing was kept
pub mentioned : (p : KeptPage) (text : List ℕ) → (length text == 0) ≡ false → becomes (page_in p value.Mention) text ≡ becomes_in p value.Mention text
mentioned p [] is = absurd (cc)
mentioned p (b ∷ bs) is = refl

-- a link that leads there by the page's clauses
pub leads_alike : (p : KeptPage) (f : ValueForm) (page : Page) (text : List ℕ) (new : Option (List ℕ)) → page ≡ page_in p f → new ≡ becomes page text
    → (IsMirror page → can_hold page text ≡ true → LeadsTo page.file (destination page text) (changing.or_same new text))
    → (IsMirror page → holds_all page.form ≡ true → can_hold page text ≡ true)
    → LeadsAlike p f text (sheets.changed (becomes (page_in p f)) text)
leads_alike p f page text new e value leads held = λ names either.
    let there = subst (λ (q : Page). IsMirror q → can_hold q text ≡ true → LeadsTo q.file (destination q text) (changing.or_same new text)) e leads in
    let holds = subst (λ (q : Page). IsMirror q → holds_all q.form ≡ true → can_hold q text ≡ true) e held in
    let other : new ≡ becomes (page_in p f) text = value ∙ ap (λ (q : Page). becomes q text) e in
    let mirror = is_mirror p f names in
    subst (LeadsTo p.file (destination (page_in p f) text)) (ap (λ (o : Option (List ℕ)). changing.or_same o text) other ∙ same_or (becomes (page_in p f) text) text)
    (there mirror (elim either [
      | inl all ↦ holds mirror all
      | inr one ↦ one
    ]))

down : (s : List ℕ) → IsInner s → LeadsDown s
down s inner = record { not_here = inner.not_here; not_above = inner.not_above }

-- the reference of a file to itself
pub to_itself : (file : List ℕ) → IsKeptName file → resolve file (relative file file) ≡ file
to_itself file kept = resolve_relative file file kept.bytes (All-weaker IsInner LeadsDown down (slice_split is_slash file) kept.inside)

-- the page of its parts, by what a link is written in
abbrev page_with : KeptPage → Form → Kept → Page
page_with p form kept = record { file = p.file; base = p.base; form = form; name = name_in kept; target = target_in kept }

pub page_is : (p : KeptPage) (f : ValueForm) (form : Form) (kept : Kept) (l : Linked Kept) → l ≡ record { file = p.file; base = p.base; form = form; mirror = kept } → form_of f ≡ form
    → kept_for f p.run ≡ kept → page_of (λ run u. name_in run u) (λ run u. target_in run u) l ≡ page_in p f
page_is p f form kept l is e r =
    ap (page_of (λ run u. name_in run u) (λ run u. target_in run u)) is ∙ ap (λ (k : Kept). page_with p form k) (sym r) ∙ ap (λ (other : Form). page_with p other (kept_for f p.run)) (sym e)

-- a page with that base
abbrev pub page_by : Kept → List ℕ → AddressText → KeptPage
page_by run file base = record { run = run; file = file; base = base }

-- what is given for a page
pub page_given : {A : Type 0} (items : A → List ℕ) (run : Kept) (at : AddressText) (file body : List ℕ) (syntax : Syntax) (p : KeptPage) (o : Option A) → p ≡ page_at run at file syntax body
    → MatchOption o (Unit {0}) (λ x. IsAnew (becomes_in p) syntax body (items x))
    → MatchOption o (Unit {0}) (λ x. AreChanged (becomes_in p) (Leads p) (links_of_body syntax body) (links_of_body syntax (items x)))
    → MatchOption o (Unit {0}) (λ x. IsAnewAs kinds.Html run at file body (items x))
page_given items run at file body syntax p None e kept links = tt
page_given items run at file body syntax p (Some x) e kept links = (syntax, subst (λ (q : KeptPage). IsPageAnew q syntax body (items x)) e (record { kept = kept; links = links }))

-- what is given for a sheet
pub sheet_given : {A : Type 0} (items : A → List ℕ) (run : Kept) (at : AddressText) (file body : List ℕ) (p : KeptPage) (o : Option A) → p ≡ sheet_at run at file
    → MatchOption o (Unit {0}) (λ x. sheets.IsAnew (becomes_in p value.Sheet) body (items x))
    → MatchOption o (Unit {0}) (λ x. AreReferencesChanged (becomes_in p value.Sheet) (Leads p value.Sheet) (references body) (references (items x)))
    → MatchOption o (Unit {0}) (λ x. IsAnewAs kinds.Sheet run at file body (items x))
sheet_given items run at file body p None e kept links = tt
sheet_given items run at file body p (Some x) e kept links = subst (λ (q : KeptPage). IsSheetAnew q body (items x)) e (record { kept = kept; links = links })

-- a page that stays is itself anew
pub page_same : (run : Kept) (at : AddressText) (file body : List ℕ) (syntax : Syntax) (p : KeptPage) (found : Links) → p ≡ page_at run at file syntax body → found ≡ links_of_body syntax body
    → AreChanged (becomes_in p) (Leads p) found found → IsAnewAs kinds.Html run at file body body
page_same run at file body syntax p found e is links = (
  syntax,
  subst (λ (q : KeptPage). IsPageAnew q syntax body body) e
      (record { kept = record { between = []; one_by_one = refl }; links = subst (λ (l : Links). AreChanged (becomes_in p) (Leads p) l l) is links }),
)

-- what is given for a body is an answer
pub answer_as : {A : Type 0} (items : A → List ℕ) (k : BodyKind) (run : Kept) (at : AddressText) (file body : List ℕ) (anew : Anew) (o : Option A)
    → given body anew ≡ option_map items o → MatchOption o (Unit {0}) (λ x. IsAnewAs k run at file body (items x)) → IsAnswerAs k run at file body anew
answer_as items k run at file body Same None g h = absurd (cc)
answer_as items k run at file body Same (Some x) g h = subst (λ (b : List ℕ). IsAnewAs k run at file body b) (sym (some_is body (items x) g)) h
answer_as items k run at file body (Changed other) None g h = absurd (cc)
answer_as items k run at file body (Changed other) (Some x) g h = subst (λ (b : List ℕ). IsAnewAs k run at file body b) (sym (some_is other.items (items x) g)) h
answer_as items k run at file body Left o g h = tt

-- so is what is said of it by the kind that it is read as
pub answered : (run : Kept) (at : AddressText) (kind k : BodyKind) (file body : List ℕ) (anew : Anew) → k ≡ kind_if (is_read (outcome_among run.records at)) kind
    → IsAnswerAs k run at file body anew → IsAnswer run at kind file body anew
answered run at kind k file body Same e h = subst (λ (j : BodyKind). IsAnewAs j run at file body body) e h
answered run at kind k file body (Changed other) e h = subst (λ (j : BodyKind). IsAnewAs j run at file body other.items) e h
answered run at kind k file body Left e h = tt
