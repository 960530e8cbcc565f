-- One line more of a list.
use Rattle.std.proofs.Common.{◌≡◌, ◌∙◌, ◌⊎◌, ◌++◌, ◌∷◌, [], ℕ, ◌+◌, ◌≤◌, Bool, true, false, List, Option, Some, None, drop, length, option_map, refl, sym, ap, subst, inl, inr, arith, rules}
use Rattle.std.specs.Prelude.{All, IsSome, if◌then◌else◌, slice_get, take, unwrap_or}
use Rattle.std.specs.Str.{IsUtf8, is_utf8}
use Rattle.std.proofs.lemmas.Bool.{cases_lt}
use Rattle.std.proofs.lemmas.List.{length-append, length-drop, drop-append-le}
use Rattle.std.proofs.lemmas.List.Concat.{flat_map-append}
use Rattle.std.proofs.lemmas.List.Elements.{All-push}
use Rattle.std.proofs.lemmas.Str.{IsUtf8-from_is_utf8}
use Rattle.address.specs.Address.{AddressText}
use Rattle.html_links.specs.Values.{trimmed}
use Rattle.start_lists.specs.Lists.{AreGood, IsNoList, is_passed, line_start, lines_of, starts_of_line, starts_of_lines}
use Rattle.start_lists.specs.declared.lines.StartFault.{StartFault}
use Rattle.start_lists.specs.declared.lines.StartFault.TheVariants as line_fault
use Rattle.start_lists.specs.declared.lines.TheConstants.{MAX_LINES}
use Rattle.start_lists.specs.inner.Lines.{numbered}

false_unless : (b : Bool) → ¬ (b ≡ true) → b ≡ false
false_unless true h = absurd (h refl)
false_unless false h = refl

pub not_text : (bytes : List ℕ) → ¬ (IsUtf8 bytes) → is_utf8 bytes ≡ false
not_text bytes h = false_unless (is_utf8 bytes) (λ text. h (IsUtf8-from_is_utf8 bytes text))

module _ (by_proxy : Bool) (base : Option AddressText) (line trim : List ℕ) (is : trim ≡ trimmed line) where
  -- what a line says, by whether it is passed over
  abbrev said : Bool → Option (List AddressText)
  said b = if b then Some [] else option_map (λ start. start ∷ []) (line_start by_proxy base (trimmed line))

  -- a line that is passed over has no start
  pub passed : is_passed trim ≡ true → starts_of_line by_proxy base line ≡ Some []
  passed h = ap said (ap is_passed (sym is) ∙ h)

  -- another has the start that it names, if it names one
  pub unpassed : is_passed trim ≡ false → (found : Option AddressText) → found ≡ line_start by_proxy base trim → starts_of_line by_proxy base line ≡ option_map (λ start. start ∷ []) found
  unpassed h found start =
      ap said (ap is_passed (sym is) ∙ h)
      ∙ ap (λ (o : Option AddressText). option_map (λ start. start ∷ []) o) (ap (line_start by_proxy base) (sym is) ∙ sym start)

module _ (by_proxy : Bool) (base : Option AddressText) (lines : List (List ℕ)) (line : List ℕ) (added : List AddressText) (said : starts_of_line by_proxy base line ≡ Some added) where
  pub good_push : AreGood by_proxy base lines → AreGood by_proxy base (lines ++ line ∷ [])
  good_push good = All-push (λ l. IsSome (starts_of_line by_proxy base l)) lines line good (subst (λ (o : Option (List AddressText)). IsSome o) (sym said) (search rules))

  pub starts_push : (starts : List AddressText) → starts ≡ starts_of_lines by_proxy base lines → starts ++ added ≡ starts_of_lines by_proxy base (lines ++ line ∷ [])
  starts_push starts so =
      let one : unwrap_or (starts_of_line by_proxy base line) [] ++ [] ≡ added = ap (λ (o : Option (List AddressText)). unwrap_or o [] ++ []) said ∙ search rules in
      ap (λ (xs : List AddressText). xs ++ added) so
      ∙ ap (λ (xs : List AddressText). starts_of_lines by_proxy base lines ++ xs) (sym one)
      ∙ sym (flat_map-append (λ (l : List ℕ). unwrap_or (starts_of_line by_proxy base l) []) lines (line ∷ []))

-- after as many lines as a list may have a line is empty
pub few_push : (lines : List (List ℕ)) (line : List ℕ) → (MAX_LINES ≤ length lines → line ≡ []) → All (λ l. l ≡ []) (drop MAX_LINES lines) → All (λ l. l ≡ []) (drop MAX_LINES (lines ++ line ∷ []))
few_push lines line empty few = elim (cases_lt (length lines) MAX_LINES) [
  | inl small ↦ (λ k d lt. absurd (omega (arith, lt, small, length-drop MAX_LINES (lines ++ line ∷ []), length-append lines (line ∷ []))))
  | inr large ↦ subst (λ (xs : List (List ℕ)). All (λ l. l ≡ []) xs) (sym (drop-append-le MAX_LINES lines (line ∷ []) large)) (All-push (λ l. l ≡ []) (drop MAX_LINES lines) line few (empty large))
]

-- the first line that is bad is named, unless memory ran out
pub first_bad : (by_proxy : Bool) (base : Option AddressText) (text : List ℕ) (k : ℕ) (line : List ℕ) (wrong : StartFault) → slice_get (lines_of text) k ≡ Some line → AreGood by_proxy base (take k (lines_of text))
    → (starts_of_line by_proxy base line ≡ None) ⊎ (wrong ≡ line_fault.Memory) → IsNoList by_proxy base text (numbered wrong (k + 1))
first_bad by_proxy base text k line line_fault.Memory at good bad = refl
first_bad by_proxy base text k line line_fault.Bad at good (inl none) = record { place = k; line = line; is = at; good = good; bad = none; counted = refl }
first_bad by_proxy base text k line line_fault.Bad at good (inr memory) = cc
