-- A changed link changes no more.
use Rattle.std.proofs.Common.{◌≡◌, ℕ, ◌||◌, ◌&&◌, not, Bool, true, false, List, [], ◌∷◌, ◌++◌, All, Option, Some, None, if◌then◌else◌, ◌==◌, refl, sym, ap, ◌∙◌, subst, bytes_eq}
use Rattle.std.proofs.lemmas.Bool.{eqb-true}
use Rattle.std.proofs.lemmas.List.Elements.{All-head}
use Rattle.std.proofs.lemmas.Slice.Eq.{bytes_eq-Decides}
use Rattle.address.specs.Address.{AddressText}
use Rattle.local_links.specs.Relative.{relative, IsLinkByte}
use Rattle.local_links.proofs.RelativeLaws.{relative_bytes}
use Rattle.link_changes.specs.Leading.{Page, Destination, File, Web, Other, fragment_of, is_own, landed, at_end, address_in, destination_by, destination}
use Rattle.link_changes.specs.Changing.{way_to, text_at, changed_text, fits, to_other, becomes, or_same}
use Rattle.link_changes.proofs.Marks.{fragment_own}

equal : (xs : List ℕ) → bytes_eq xs xs ≡ true
equal xs = (bytes_eq-Decides xs xs).1 refl

link_unowned : (b : ℕ) → IsLinkByte b → (b == 35) ≡ false
link_unowned b e = go (b == 35) refl where
  go : (t : Bool) → (b == 35) ≡ t → t ≡ false
  go false h = refl
  go true h = let bad : IsLinkByte 35 = subst IsLinkByte (eqb-true b 35 h) e in absurd (cc)

-- a way that is read as nothing is nothing
unowned : (way fragment : List ℕ) → All IsLinkByte way → is_own (way ++ fragment) ≡ true → way ≡ []
unowned [] fragment all own = refl
unowned (b ∷ bs) fragment all own = let other = link_unowned b (All-head IsLinkByte b bs all) in absurd (cc)

kept_by : (rel f : List ℕ) (own equals : Bool) → is_own (rel ++ f) ≡ own → All IsLinkByte rel → (if own && equals then [] else rel) ++ f ≡ rel ++ f
kept_by rel f true true h all = ap (λ way. way ++ f) (sym (unowned rel f all h))
kept_by rel f true false h all = refl
kept_by rel f false equals h all = refl

again_by : (rel f : List ℕ) (own equals : Bool) → All IsLinkByte rel → is_own f ≡ true
    → (if is_own ((if own && equals then [] else rel) ++ f) && equals then [] else rel) ++ f ≡ (if own && equals then [] else rel) ++ f
again_by rel f true true all mark = ap (λ t. (if t && true then [] else rel) ++ f) mark
again_by rel f true false all mark = kept_by rel f (is_own (rel ++ f)) false refl all
again_by rel f false equals all mark = kept_by rel f (is_own (rel ++ f)) equals refl all

way_again : (page later : Page) (text name : List ℕ) → later.file ≡ page.file
    → way_to later (way_to page text name ++ fragment_of text) name ++ fragment_of text ≡ way_to page text name ++ fragment_of text
way_again page later text name e =
    ap (λ file. (if is_own (way_to page text name ++ fragment_of text) && bytes_eq name file then [] else relative file name) ++ fragment_of text) e
    ∙ again_by (relative page.file name) (fragment_of text) (is_own text) (bytes_eq name page.file) (relative_bytes page.file name) (fragment_own text)

abbrev Again : Page → Page → List ℕ → Destination → Type 0
Again page later text d = text_at later (text_at page text d) d ≡ text_at page text d

place_again : (page later : Page) (text : List ℕ) (u : AddressText) (place : Option (List ℕ)) → later.file ≡ page.file → Again page later text (at_end place u (fragment_of text))
place_again page later text u None e = refl
place_again page later text u (Some name) e = way_again page later text name e

address_again : (page later : Page) (text : List ℕ) (a : Option AddressText) → later.file ≡ page.file → Again page later text (destination_by page a text)
address_again page later text (Some u) e = place_again page later text u (landed page u) e
address_again page later text None e = refl

text_again : (page later : Page) (text : List ℕ) → later.file ≡ page.file → Again page later text (destination page text)
text_again page later text e = address_again page later text (address_in page text) e

file_same : (page later : Page) (text : List ℕ) (d : Destination) → later.file ≡ page.file → text_at later text d ≡ text_at page text d
file_same page later text (File name fragment) e = ap (λ file. (if is_own text && bytes_eq name file then [] else relative file name) ++ fragment) e
file_same page later text (Web u fragment) e = refl
file_same page later text (Other other) e = refl

-- what a link became
abbrev pub anew : Page → List ℕ → List ℕ
anew page text = or_same (becomes page text) text

stays : (page later : Page) (text new : List ℕ) → later.form ≡ page.form → changed_text later text ≡ new → (bytes_eq new text || not (fits page.form new)) ≡ true → becomes later text ≡ None
unfolding becomes
stays page later text new form e test =
    ap (to_other later.form text) e ∙ ap (λ f. to_other f text new) form ∙ ap (λ t. if t then None else Some new) test

-- A link of the same file and form that still leads where it led changes no more.
pub changes_no_more : (page later : Page) (text : List ℕ) → later.file ≡ page.file → later.form ≡ page.form
    → destination later (anew page text) ≡ destination page text → becomes later (anew page text) ≡ None
unfolding becomes
changes_no_more page later text file form leads =
    go (changed_text page text) refl (bytes_eq (changed_text page text) text || not (fits page.form (changed_text page text))) refl leads where
      go : (new : List ℕ) → changed_text page text ≡ new → (t : Bool) → (bytes_eq new text || not (fits page.form new)) ≡ t
          → destination later (or_same (if t then None else Some new) text) ≡ destination page text
          → becomes later (or_same (if t then None else Some new) text) ≡ None
      go new is true e same =
          stays page later text new form (ap (text_at later text) same ∙ file_same page later text (destination page text) file ∙ is) e
      go new is false e same =
          ap (λ d. to_other later.form new (text_at later new d)) same
          ∙ ap (to_other later.form new) (subst (λ x. text_at later x (destination page text) ≡ x) is (text_again page later text file))
          ∙ ap (λ t. if t || not (fits later.form new) then None else Some new) (equal new)
