-- What links become can be written in each form.
use Rattle.std.proofs.Common.{◌≡◌, ◌≢◌, ℕ, ◌<◌, ◌||◌, ◌&&◌, not, nat_lt, Bool, true, false, List, [], ◌∷◌, All, Some, None, if◌then◌else◌, ◌==◌, refl, sym, ap, ◌∙◌, subst, ◌⊎◌, inl, inr, arith, bytes_eq}
use Rattle.std.specs.List.{list_all}
use Rattle.std.specs.Str.Lossy.{utf8_lossy}
use Rattle.std.proofs.lemmas.Str.Ascii.{IsAscii-from_all}
use Rattle.std.proofs.lemmas.Str.{IsUtf8-from_ascii, utf8_lossy-IsUtf8}
use Rattle.std.proofs.lemmas.Bool.{and_parts, ne_eqb}
use Rattle.std.proofs.lemmas.Bool.Decides.{nat_tests}
use Rattle.std.proofs.lemmas.List.Elements.{All-cons, All-nil, All-weaker}
use Rattle.css_links.specs.Rewriting as sheets
use Rattle.source_sets.specs.Sets as set
use Rattle.source_sets.specs.Rewriting as sets
use Rattle.refresh_links.specs.Rewriting as refreshes
use Rattle.link_changes.specs.declared.form.Form.{Form}
use Rattle.link_changes.specs.declared.form.Form.TheVariants.{Set, Refresh}
use Rattle.link_changes.specs.Leading.{Page}
use Rattle.link_changes.specs.Changing.{is_visible, fits_refresh, fits_in, fits, changed_text, becomes}
use Rattle.link_changes.proofs.Marks.{Visible}

visible_all : (text : List ℕ) → list_all is_visible text ≡ true → All Visible text
visible_all [] e = All-nil Visible
visible_all (b ∷ bs) e = All-cons Visible b bs (and_parts (is_visible b) (list_all is_visible bs) e).0 (visible_all bs (and_parts (is_visible b) (list_all is_visible bs) e).1)

-- a text that fits is visible
pub record Fitting (form : Form) (text : List ℕ) : Type 0 where
  pub present : text ≢ []
  pub visible : All Visible text
  pub utf8 : utf8_lossy text ≡ text

above : (b : ℕ) → Visible b → 32 < b
above b e = let low : nat_lt 32 b ≡ true = (and_parts (nat_lt 32 b) (nat_lt b 127) e).0 in grind (arith, nat_tests)

below : (b : ℕ) → Visible b → b < 127
below b e = let high : nat_lt b 127 ≡ true = (and_parts (nat_lt 32 b) (nat_lt b 127) e).1 in grind (arith, nat_tests)

ascii : (b : ℕ) → Visible b → b < 128
ascii b e = omega (arith, below b e)

fitting : (form : Form) (text : List ℕ) → fits form text ≡ true → Fitting form text
fitting form [] e = absurd (cc)
fitting form (b ∷ bs) e =
    let outer = and_parts (is_visible b && list_all is_visible bs) (fits_in form b bs) e in
    let all = visible_all (b ∷ bs) outer.0 in
    record {
      present = λ none. absurd (cc);
      visible = all;
      utf8 = utf8_lossy-IsUtf8 (b ∷ bs) (IsUtf8-from_ascii (b ∷ bs) (IsAscii-from_all (b ∷ bs) (All-weaker Visible (λ x. x < 128) ascii (b ∷ bs) all)));
    }

-- what a link becomes fits
became : (page : Page) (text other : List ℕ) → becomes page text ≡ Some other → fits page.form other ≡ true
unfolding becomes
became page text other e = go (bytes_eq (changed_text page text) text) (fits page.form (changed_text page text)) refl e where
  go : (t fit : Bool) → fits page.form (changed_text page text) ≡ fit → (if t || not fit then None else Some (changed_text page text)) ≡ Some other → fits page.form other ≡ true
  go true fit h s = absurd (cc)
  go false false h s = absurd (cc)
  go false true h s = let is : changed_text page text ≡ other = cc in ap (fits page.form) (sym is) ∙ h

writable_byte : (b : ℕ) → Visible b → sheets.IsWritableByte b
writable_byte b e = (above b e, λ h. absurd (omega (arith, below b e, h)))

-- In a sheet.
pub writes_sheets : (page : Page) → sheets.IsWriting (becomes page)
writes_sheets page text other e =
    let fit = fitting page.form other (became page text other e) in
    record { present = fit.present; bytes = All-weaker Visible sheets.IsWritableByte writable_byte other fit.visible; utf8 = fit.utf8 }

black : (b : ℕ) → Visible b → set.is_white b ≡ false
black b e =
    rw (
      ne_eqb b 9 (omega (arith, above b e)),
      ne_eqb b 10 (omega (arith, above b e)),
      ne_eqb b 12 (omega (arith, above b e)),
      ne_eqb b 13 (omega (arith, above b e)),
      ne_eqb b 32 (omega (arith, above b e)),
    )
    refl

all_black : (text : List ℕ) → list_all is_visible text ≡ true → list_all sets.is_black text ≡ true
all_black [] e = refl
all_black (b ∷ bs) e =
    let both = and_parts (is_visible b) (list_all is_visible bs) e in
    ap (λ t. not t && list_all sets.is_black bs) (black b both.0) ∙ all_black bs both.1

not_true : (b : Bool) → not b ≡ true → b ≡ false
not_true true e = absurd (cc)
not_true false e = refl

in_set : (text : List ℕ) → fits Set text ≡ true → sets.CanBeUrl text
in_set [] e = absurd (cc)
in_set (b ∷ bs) e =
    let outer = and_parts (is_visible b && list_all is_visible bs) (not (b == 44) && sets.ends_well b bs) e in
    let seen = and_parts (is_visible b) (list_all is_visible bs) outer.0 in
    let own = and_parts (not (b == 44)) (sets.ends_well b bs) outer.1 in
    record { begins = not_true (b == 44) own.0; ends = own.1; black = black b seen.0; all_black = all_black bs seen.1; utf8 = (fitting Set (b ∷ bs) e).utf8 }

-- In a source set.
pub writes_sets : (page : Page) → page.form ≡ Set → sets.IsWriting (becomes page)
writes_sets page form text other e = in_set other (subst (λ f. fits f other ≡ true) form (became page text other e))

unequal : (p q : Bool) (r : Bool) → (not p && not q || r) ≡ true → ((p || q) ≡ false) ⊎ (r ≡ true)
unequal true q r e = inr e
unequal false true r e = inr e
unequal false false r e = inl refl

separate : (p q : Bool) → not p ≡ true → not q ≡ true → (p || q) ≡ false
separate true q a b = absurd (cc)
separate false true a b = absurd (cc)
separate false false a b = refl

in_refresh : (text : List ℕ) → fits Refresh text ≡ true → refreshes.CanBeUrl text
in_refresh [] e = absurd (cc)
in_refresh (b ∷ bs) e =
    let outer = and_parts (is_visible b && list_all is_visible bs) (fits_refresh b bs) e in
    let seen = and_parts (is_visible b) (list_all is_visible bs) outer.0 in
    let r = not (b == 117) && not (b == 85) || list_all refreshes.is_unequal bs in
    let p4 = and_parts (refreshes.is_unquoted b && list_all refreshes.is_unquoted bs && not (b == 59) && not (b == 44)) r outer.1 in
    let p3 = and_parts (refreshes.is_unquoted b && list_all refreshes.is_unquoted bs && not (b == 59)) (not (b == 44)) p4.0 in
    let p2 = and_parts (refreshes.is_unquoted b && list_all refreshes.is_unquoted bs) (not (b == 59)) p3.0 in
    record {
      unquoted = p2.0;
      black = black b seen.0;
      own = separate (b == 59) (b == 44) p2.1 p3.1;
      unequal = unequal (b == 117) (b == 85) (list_all refreshes.is_unequal bs) p4.1;
      utf8 = (fitting Refresh (b ∷ bs) e).utf8;
    }

-- In a refresh.
pub writes_refreshes : (page : Page) → page.form ≡ Refresh → refreshes.IsWriting (becomes page)
writes_refreshes page form text other e = in_refresh other (subst (λ f. fits f other ≡ true) form (became page text other e))
