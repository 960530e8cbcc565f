-- A changed link leads from its file where it led from its page, and values and sheets can hold it.
use Rattle.std.proofs.Common.{◌≡◌, ◌≢◌, ℕ, ◌+◌, zero, suc, ◌<◌, ◌≤◌, ◌||◌, ◌&&◌, Bool, true, false, List, [], ◌∷◌, ◌++◌, All, Option, Some, None, if◌then◌else◌, ◌==◌, codes, refl, sym, ap, ◌∙◌, subst, arith, inl, inr, bytes_eq}
use Rattle.std.specs.Prelude.{IfSome, not}
use Rattle.std.specs.Option.{option_or, option_and_then}
use Rattle.std.proofs.lemmas.Bool.{ne_eqb, eqb-true, cases_lt, agree_below_at}
use Rattle.std.proofs.lemmas.Bool.Decides.{nat_tests}
use Rattle.std.proofs.lemmas.List.Elements.{All-nil, All-head, All-tail, All-append, All-weaker}
use Rattle.std.proofs.lemmas.Slice.Eq.{bytes_eq-Decides}
use Rattle.std.specs.List.{slice_split, list_all}
use Rattle.address.specs.Address.{AddressText, IsAddress, IsAddressByte, scheme_of, scheme_text, authority_of, path_query_of}
use Rattle.address.specs.declared.scheme.Scheme.{Scheme}
use Rattle.address.specs.declared.scheme.Scheme.TheVariants.{Http, Https}
use Rattle.local_links.specs.Relative.{is_slash, is_unreserved, relative, resolve, LeadsDown, IsLinkByte}
use Rattle.local_links.proofs.RelativeLaws.{resolve_relative, relative_bytes, relative_some}
use Rattle.local_names.specs.LocalNames.{IsInner}
use Rattle.link_changes.specs.declared.form.Form.{Form}
use Rattle.link_changes.specs.declared.form.Form.TheVariants.{Value, Sheet, Set, Refresh}
use Rattle.link_changes.specs.declared.links.TheConstants.{MAX_REDIRECTS}
use Rattle.link_changes.specs.Leading.{Page, Destination, File, Web, from_mark, fragment_of, is_own, has_scheme, landed_within, landed, at_end, address_in, destination_by, destination, leads_by, leads}
use Rattle.link_changes.specs.Changing.{way_to, text_at, changed_text, is_visible, fits_in, fits, holds_all, can_hold, to_other, becomes, or_same, LeadsTo, IsKeptName, IsMirror}
use Rattle.link_changes.proofs.Marks.{Unmarked, before_plain, from_plain, fragment_own, fragment_none, fragment_some, Visible, near, fragment_visible, all_true}

same : (xs ys : List ℕ) → bytes_eq xs ys ≡ true → xs ≡ ys
same xs ys e = (bytes_eq-Decides xs ys).0 e

equal : (xs : List ℕ) → bytes_eq xs xs ≡ true
equal xs = (bytes_eq-Decides xs xs).1 refl

-- ---- names

down : (s : List ℕ) → IsInner s → LeadsDown s
down s inner = record { not_here = inner.not_here; not_above = inner.not_above }

some : (s : List ℕ) → IsInner s → s ≢ []
some s inner = inner.present

resolved : (file name : List ℕ) → IsKeptName name → resolve file (relative file name) ≡ name
resolved file name kept = resolve_relative file name kept.bytes (All-weaker IsInner LeadsDown down (slice_split is_slash name) kept.inside)

way_some : (file name : List ℕ) → IsKeptName name → relative file name ≢ []
way_some file name kept = relative_some file name (All-weaker IsInner (λ s. s ≢ []) some (slice_split is_slash name) kept.inside)

kept_or : (page : Page) (address : AddressText) (name : List ℕ) (found target : Option (List ℕ)) (n : ℕ)
    → (found ≡ Some name → IsKeptName name) → ((next : AddressText) → landed_within n page next ≡ Some name → IsKeptName name)
    → option_or found (option_and_then (landed_within n page) target) ≡ Some name → IsKeptName name
kept_or page address name (Some own) target n here there e = here e
kept_or page address name None (Some next) n here there e = there next e
kept_or page address name None None n here there e = absurd (cc)

kept_within : (n : ℕ) (page : Page) (address : AddressText) (name : List ℕ) → IsMirror page → landed_within n page address ≡ Some name → IsKeptName name
kept_within zero page address name mirror e = absurd (cc)
kept_within (suc n) page address name mirror e =
    kept_or page address name (page.name address) (page.target address) n (mirror address name) (λ next h. kept_within n page next name mirror h) e

pub kept_name : (page : Page) (address : AddressText) (name : List ℕ) → IsMirror page → landed page address ≡ Some name → IsKeptName name
unfolding landed
kept_name page address name mirror e = kept_within (MAX_REDIRECTS + 1) page address name mirror e

-- ---- what is written has no `#`, and its scheme is seen

link_unmarked : (b : ℕ) → IsLinkByte b → Unmarked b
link_unmarked b e = go (b == 35) refl where
  go : (t : Bool) → (b == 35) ≡ t → t ≡ false
  go false h = refl
  go true h = let bad : IsLinkByte 35 = subst IsLinkByte (eqb-true b 35 h) e in absurd (cc)

no_colon : (b : ℕ) → IsLinkByte b → (b == 58) ≡ false
no_colon b e = go (b == 58) refl where
  go : (t : Bool) → (b == 58) ≡ t → t ≡ false
  go false h = refl
  go true h = let bad : IsLinkByte 58 = subst IsLinkByte (eqb-true b 58 h) e in absurd (cc)

abbrev is_link : ℕ → Bool
is_link b = is_unreserved b || b == 37 || b == 47

link_far : (b : ℕ) → 128 ≤ b → is_link b ≡ false
link_far b large = grind (arith, nat_tests)

link_table : (b : ℕ) → b < 128 → (not (is_link b) || is_visible b) ≡ true
link_table b small = agree_below_at (λ x. not (is_link x) || is_visible x) (λ x. true) 128 b refl small

link_visible : (b : ℕ) → IsLinkByte b → Visible b
link_visible b e = elim (cases_lt b 128) [
  | inl small ↦ ap (λ t. not t || is_visible b) (sym e) ∙ link_table b small
  | inr large ↦ let none = link_far b large in absurd (cc)
]

no_scheme : (text : List ℕ) → All IsLinkByte text → has_scheme text ≡ false
no_scheme [] all = refl
no_scheme (b ∷ bs) all =
    ap (λ t. if t then true else if b == 47 then false else has_scheme bs) (no_colon b (All-head IsLinkByte b bs all))
    ∙ go (b == 47) (no_scheme bs (All-tail IsLinkByte b bs all)) where
      go : (t : Bool) → has_scheme bs ≡ false → (if t then false else has_scheme bs) ≡ false
      go true h = refl
      go false h = h

address_unmarked : (b : ℕ) → IsAddressByte b → Unmarked b
address_unmarked b plain = ne_eqb b 35 plain.2

address_visible : (b : ℕ) → IsAddressByte b → Visible b
address_visible b plain = near b plain.0 plain.1

schemed : (scheme : Scheme) (authority rest : List ℕ) → has_scheme ((scheme_text scheme ++ (codes "://" ++ authority)) ++ rest) ≡ true
schemed Http authority rest = refl
schemed Https authority rest = refl

begun : (scheme : Scheme) (authority rest : List ℕ) → (scheme_text scheme ++ (codes "://" ++ authority)) ++ rest ≢ []
begun Http authority rest e = absurd (cc)
begun Https authority rest e = absurd (cc)

address_is : (u : AddressText) → IsAddress u → u ≡ (scheme_text (scheme_of u) ++ (codes "://" ++ authority_of u)) ++ path_query_of u
address_is u is = is.split ∙ ap (λ o. o ++ path_query_of u) is.origin

address_schemed : (u : AddressText) → IsAddress u → has_scheme u ≡ true
address_schemed u is = ap has_scheme (address_is u is) ∙ schemed (scheme_of u) (authority_of u) (path_query_of u)

address_some : (u : AddressText) → IsAddress u → u ≢ []
address_some u is e = begun (scheme_of u) (authority_of u) (path_query_of u) (sym (address_is u is) ∙ e)

-- ---- where it leads

leads_own : (file fragment : List ℕ) → is_own fragment ≡ true → leads file fragment ≡ File file fragment
unfolding leads
leads_own file fragment own =
    ap (λ x. leads_by file x (from_mark fragment)) (before_plain [] fragment (All-nil Unmarked) own)
    ∙ ap (File file) (from_plain [] fragment (All-nil Unmarked) own)

cut : (file text fragment : List ℕ) → All Unmarked text → is_own fragment ≡ true → leads file (text ++ fragment) ≡ leads_by file text fragment
unfolding leads
cut file text fragment all own =
    ap (λ x. leads_by file x (from_mark (text ++ fragment))) (before_plain text fragment all own)
    ∙ ap (leads_by file text) (from_plain text fragment all own)

by_file : (file text fragment : List ℕ) → text ≢ [] → has_scheme text ≡ false → leads_by file text fragment ≡ File (resolve file text) fragment
by_file file [] fragment n e = absurd (n refl)
by_file file (b ∷ bs) fragment n e = ap (λ t. if t then Web (b ∷ bs) fragment else File (resolve file (b ∷ bs)) fragment) e

by_web : (file text fragment : List ℕ) → text ≢ [] → has_scheme text ≡ true → leads_by file text fragment ≡ Web text fragment
by_web file [] fragment n e = absurd (n refl)
by_web file (b ∷ bs) fragment n e = ap (λ t. if t then Web (b ∷ bs) fragment else File (resolve file (b ∷ bs)) fragment) e

leads_file : (file name fragment : List ℕ) → IsKeptName name → is_own fragment ≡ true → leads file (relative file name ++ fragment) ≡ File name fragment
leads_file file name fragment kept own =
    cut file (relative file name) fragment (All-weaker IsLinkByte Unmarked link_unmarked (relative file name) (relative_bytes file name)) own
    ∙ by_file file (relative file name) fragment (way_some file name kept) (no_scheme (relative file name) (relative_bytes file name))
    ∙ ap (λ n. File n fragment) (resolved file name kept)

leads_web : (file u fragment : List ℕ) → IsAddress u → is_own fragment ≡ true → leads file (u ++ fragment) ≡ Web u fragment
leads_web file u fragment is own =
    cut file u fragment (All-weaker IsAddressByte Unmarked address_unmarked u is.plain) own
    ∙ by_web file u fragment (address_some u is) (address_schemed u is)

to_file : (page : Page) (text name : List ℕ) → IsKeptName name → leads page.file (way_to page text name ++ fragment_of text) ≡ File name (fragment_of text)
to_file page text name kept = go (is_own text) (bytes_eq name page.file) refl where
  go : (own equals : Bool) → bytes_eq name page.file ≡ equals
      → leads page.file ((if own && equals then [] else relative page.file name) ++ fragment_of text) ≡ File name (fragment_of text)
  go true true e = leads_own page.file (fragment_of text) (fragment_own text) ∙ ap (λ n. File n (fragment_of text)) (sym (same name page.file e))
  go true false e = leads_file page.file name (fragment_of text) kept (fragment_own text)
  go false equals e = leads_file page.file name (fragment_of text) kept (fragment_own text)

at_place : (page : Page) (text : List ℕ) (u : AddressText) → IsMirror page → IsAddress u
    → LeadsTo page.file (at_end (landed page u) u (fragment_of text)) (text_at page text (at_end (landed page u) u (fragment_of text)))
at_place page text u mirror is = go (landed page u) refl where
  go : (place : Option (List ℕ)) → landed page u ≡ place
      → LeadsTo page.file (at_end place u (fragment_of text)) (text_at page text (at_end place u (fragment_of text)))
  go None e = leads_web page.file u (fragment_of text) is (fragment_own text)
  go (Some name) e = to_file page text name (kept_name page u name mirror e)

abbrev There : Page → List ℕ → Destination → Type 0
There page text d = LeadsTo page.file d (text_at page text d)

by_address : (page : Page) (text : List ℕ) (a : Option AddressText) → IfSome a IsAddress → IsMirror page → There page text (destination_by page a text)
by_address page text (Some u) is mirror = at_place page text u mirror is
by_address page text None is mirror = refl

-- What is written for a link leads where the link led.
leads_there : (page : Page) (text : List ℕ) (a : Option AddressText) → address_in page text ≡ a → IfSome a IsAddress → IsMirror page
    → LeadsTo page.file (destination page text) (changed_text page text)
leads_there page text a e is mirror = subst (λ x. There page text (destination_by page x text)) (sym e) (by_address page text a is mirror)

-- ---- what can be held

fits_all : (form : Form) (text : List ℕ) → holds_all form ≡ true → text ≢ [] → All Visible text → fits form text ≡ true
fits_all form [] holds n all = absurd (n refl)
fits_all form (b ∷ bs) holds n all =
    ap (λ t. t && list_all is_visible bs && fits_in form b bs) (All-head Visible b bs all)
    ∙ ap (λ t. t && fits_in form b bs) (all_true is_visible bs (All-tail Visible b bs all))
    ∙ go form holds where
      go : (form : Form) → holds_all form ≡ true → fits_in form b bs ≡ true
      go Value h = refl
      go Sheet h = refl
      go Set h = absurd (cc)
      go Refresh h = absurd (cc)

abbrev Holds : Page → List ℕ → List ℕ → Type 0
Holds page text new = (bytes_eq new text || fits page.form new) ≡ true

holds_same : (page : Page) (text : List ℕ) → Holds page text text
holds_same page text = ap (λ t. t || fits page.form text) (equal text)

holds_fit : (page : Page) (text new : List ℕ) → fits page.form new ≡ true → Holds page text new
holds_fit page text new fit = go (bytes_eq new text) where
  go : (t : Bool) → (t || fits page.form new) ≡ true
  go true = refl
  go false = fit

append_some : (xs ys : List ℕ) → xs ≢ [] → xs ++ ys ≢ []
append_some [] ys n e = absurd (n refl)
append_some (x ∷ xs) ys n e = absurd (cc)

holds_front : (page : Page) (text front : List ℕ) → holds_all page.form ≡ true → front ≢ [] → All Visible front → Holds page text (front ++ fragment_of text)
holds_front page text front holds n all =
    holds_fit page text (front ++ fragment_of text)
    (fits_all page.form (front ++ fragment_of text) holds (append_some front (fragment_of text) n) (All-append Visible front (fragment_of text) all (fragment_visible text)))

holds_own : (page : Page) (text : List ℕ) → holds_all page.form ≡ true → is_own text ≡ true → Holds page text (fragment_of text)
holds_own page [] holds own = ap (λ new. bytes_eq new [] || fits page.form new) fragment_none ∙ holds_same page []
holds_own page (b ∷ bs) holds own =
    holds_fit page (b ∷ bs) (fragment_of (b ∷ bs)) (fits_all page.form (fragment_of (b ∷ bs)) holds (fragment_some (b ∷ bs) own) (fragment_visible (b ∷ bs)))

holds_way : (page : Page) (text name : List ℕ) → holds_all page.form ≡ true → IsKeptName name → Holds page text (way_to page text name ++ fragment_of text)
holds_way page text name holds kept = go (is_own text) (bytes_eq name page.file) refl where
  written : Holds page text (relative page.file name ++ fragment_of text)
  written = holds_front page text (relative page.file name) holds (way_some page.file name kept) (All-weaker IsLinkByte Visible link_visible (relative page.file name) (relative_bytes page.file name))

  go : (own equals : Bool) → is_own text ≡ own → Holds page text ((if own && equals then [] else relative page.file name) ++ fragment_of text)
  go true true e = holds_own page text holds e
  go true false e = written
  go false equals e = written

holds_place : (page : Page) (text : List ℕ) (u : AddressText) → holds_all page.form ≡ true → IsMirror page → IsAddress u
    → Holds page text (text_at page text (at_end (landed page u) u (fragment_of text)))
holds_place page text u holds mirror is = go (landed page u) refl where
  go : (place : Option (List ℕ)) → landed page u ≡ place → Holds page text (text_at page text (at_end place u (fragment_of text)))
  go None e = holds_front page text u holds (address_some u is) (All-weaker IsAddressByte Visible address_visible u is.plain)
  go (Some name) e = holds_way page text name holds (kept_name page u name mirror e)

held_by : (page : Page) (text : List ℕ) (a : Option AddressText) → IfSome a IsAddress → holds_all page.form ≡ true → IsMirror page
    → Holds page text (text_at page text (destination_by page a text))
held_by page text (Some u) is holds mirror = holds_place page text u holds mirror is
held_by page text None is holds mirror = holds_same page text

-- Values and sheets can hold what is written for any link.
pub holds_any : (page : Page) (text : List ℕ) (a : Option AddressText) → address_in page text ≡ a → IfSome a IsAddress → IsMirror page → holds_all page.form ≡ true → can_hold page text ≡ true
holds_any page text a e is mirror holds = subst (λ x. Holds page text (text_at page text (destination_by page x text))) (sym e) (held_by page text a is holds mirror)

-- ---- the link

-- what a link becomes that leads nowhere, or to this address
pub becomes_by : (page : Page) (text : List ℕ) (a : Option AddressText) → address_in page text ≡ a → becomes page text ≡ to_other page.form text (text_at page text (destination_by page a text))
unfolding becomes
becomes_by page text a e = ap (λ x. to_other page.form text (text_at page text (destination_by page x text))) e

pub becomes_none : (page : Page) (text : List ℕ) → address_in page text ≡ None → becomes page text ≡ None
becomes_none page text e = becomes_by page text None e ∙ ap (λ t. if t || not (fits page.form text) then None else Some text) (equal text)

held_text : (page : Page) (text : List ℕ) → can_hold page text ≡ true → or_same (becomes page text) text ≡ changed_text page text
unfolding becomes
held_text page text holds = go (bytes_eq (changed_text page text) text) (fits page.form (changed_text page text)) refl holds where
  go : (t fit : Bool) → bytes_eq (changed_text page text) text ≡ t → (t || fit) ≡ true
      → or_same (if t || not fit then None else Some (changed_text page text)) text ≡ changed_text page text
  go true fit e h = sym (same (changed_text page text) text e)
  go false true e h = refl
  go false false e h = absurd (cc)

-- The link leads from its file where it led from its page.
pub leads_changed : (page : Page) (text : List ℕ) (a : Option AddressText) → address_in page text ≡ a → IfSome a IsAddress → IsMirror page → can_hold page text ≡ true
    → LeadsTo page.file (destination page text) (or_same (becomes page text) text)
leads_changed page text a e is mirror holds =
    subst (LeadsTo page.file (destination page text)) (sym (held_text page text holds)) (leads_there page text a e is mirror)
