-- Lines that are a map, and the first that isn't.
use Rattle.std.proofs.Common.{◌≡◌, ℕ, ◌+◌, ◌<◌, ◌≤◌, ◌⊎◌, ◌++◌, List, [], ◌∷◌, Some, refl, sym, ap, ◌∙◌, inl, inr, arith, length, take}
use Rattle.std.specs.List.{AllZip, slice_get}
use Rattle.std.proofs.lemmas.List.{take-append-le, get_or_push, get_or_append_left, length-append}
use Rattle.std.proofs.Math.Seq.{take-append_seam}
use Rattle.std.proofs.lemmas.Bool.{cases_lt}
use Rattle.std.proofs.lemmas.Option.{slice_get_within, get_or_from_slice_get, slice_get-get_or}
use Rattle.site_inputs.specs.declared.input_fault.InputLineFault.{InputLineFault}
use Rattle.site_inputs.specs.declared.input_fault.InputLineFault.TheVariants.{Line, Address, Memory}
use Rattle.site_inputs.specs.Faults.{numbered}
use Rattle.site_maps.specs.Lines.{Statement, HasForm}
use Rattle.site_maps.specs.Maps.{text_lines_of, IsGood, IsMap, IsFault}
use Rattle.site_maps.specs.inner.Readings.{IsBad}

forms_push : (lines : List (List ℕ)) (said : List Statement) (line : List ℕ) (s : Statement) → AllZip HasForm lines said → HasForm line s → AllZip HasForm (lines ++ line ∷ []) (said ++ s ∷ [])
forms_push [] [] line s all h = (h, tt)
forms_push [] (t ∷ said) line s all h = absurd all
forms_push (l ∷ lines) [] line s all h = absurd all
forms_push (l ∷ lines) (t ∷ said) line s all h = (all.0, forms_push lines said line s all.1 h)

good_push : (said : List Statement) (s : Statement) → ((k : ℕ) (t : Statement) → slice_get said k ≡ Some t → IsGood (take k said) t) → IsGood said s
    → (k : ℕ) (t : Statement) → slice_get (said ++ s ∷ []) k ≡ Some t → IsGood (take k (said ++ s ∷ [])) t
good_push said s all new k t at =
    let within : k < length said + 1 = omega (arith, slice_get_within (said ++ s ∷ []) k t at, length-append said (s ∷ [])) in
    let shown = get_or_from_slice_get (said ++ s ∷ []) k t t at in
    elim (place k within) [
      | inl before ↦
          let same = sym (get_or_append_left said (s ∷ []) t k before) ∙ shown in
          let front : k ≤ length said = omega arith in
          rw (take-append-le k said (s ∷ []) front) (all k t (slice_get-get_or said k t before ∙ ap Some same))
      | inr end ↦
          let same = sym (get_or_push said s t k (sym end)) ∙ shown in
          rw (end, take-append_seam said (s ∷ []), ← same) new
    ]
  where
    place : (j : ℕ) → j < length said + 1 → (j < length said) ⊎ (j ≡ length said)
    place j h = elim (cases_lt j (length said)) [ inl l ↦ inl l | inr l ↦ inr (omega arith) ]

-- no line is a map
pub map_empty : IsMap [] []
map_empty = record { forms = tt; good = λ k s h. absurd cc }

-- one more good line
pub map_push : (lines : List (List ℕ)) (said : List Statement) (line : List ℕ) (s : Statement) → IsMap lines said → HasForm line s → IsGood said s → IsMap (lines ++ line ∷ []) (said ++ s ∷ [])
map_push lines said line s m form good = record {
  forms = forms_push lines said line s m.forms form;
  good = good_push said s m.good good;
}

-- a line that is bad below the lines before it is the first bad one
pub first_bad : (text : List ℕ) (k : ℕ) (line : List ℕ) (above : List Statement) (f : InputLineFault) → slice_get (text_lines_of text) k ≡ Some line
    → IsMap (take k (text_lines_of text)) above → IsBad above line f → IsFault text (numbered f (k + 1))
first_bad text k line above Line at m bad = (k, refl, line, at, above, m, bad)
first_bad text k line above Address at m bad = (k, refl, line, at, above, m, bad)
first_bad text k line above Memory at m bad = inl (k + 1, (k, refl, line, at, above, m, bad))
