-- The line of a text, and what tells it from that of an entry: a text has one field.
use Rattle.std.proofs.Common.{◌≡◌, ◌≢◌, ◌≤◌, ℕ, List, [], ◌∷◌, ◌++◌, Vec, Global, length, map, refl, sym, ◌∙◌, ap, arith}
use Rattle.std.proofs.lemmas.List.{length-append}
use Rattle.std.specs.Fmt.{decimal}
use Rattle.entry_lines.specs.Escapes.{escaped}
use Rattle.entry_lines.specs.Fields.{fields_text}
use Rattle.entry_lines.proofs.EscapeLaws.{no_space_escaped}
use Rattle.mirror_index.specs.Cuts.{Lacks}
use Rattle.mirror_index.specs.Entries.{Entry, Text, check_of, checked_text, entry_line, head_fields, mark_field, text_line}
use Rattle.mirror_index.proofs.CutLaws.{cut_once, not_cut}
use Rattle.mirror_index.proofs.FieldLaws.{apart, check_spaceless, checked_in_line, spaceless}

pub text_in_line : (t : Text) → Lacks 10 (text_line t)
text_in_line t = checked_in_line (t ∷ [])

-- fields, if there are any, have at least one byte
pub some_checked : (f : Text) (fs : List Text) → 1 ≤ length (checked_text (f ∷ fs))
some_checked f fs = omega (
  arith,
  length-append (fields_text (f ∷ fs)) (check_of (fields_text (f ∷ fs))),
  length-append (escaped f) (32 ∷ fields_text fs),
)

pub some_text_line : (t : Text) → 1 ≤ length (text_line t)
some_text_line t = some_checked t []

pub some_entry_line : (e : Entry) → 1 ≤ length (entry_line e)
some_entry_line e = some_checked e.address (e.name ∷ decimal e.size ∷ mark_field e.mark ∷ head_fields e.head)

-- one field isn't two
one_field : (t f g : Text) (fs : List Text) → checked_text (t ∷ []) ≢ checked_text (f ∷ g ∷ fs)
one_field t f g fs same =
    let line = checked_text (t ∷ []) in
    let one = check_of (fields_text (t ∷ [])) in
    let other = check_of (fields_text (f ∷ g ∷ fs)) in
    let later = fields_text (g ∷ fs) ++ other in
    let both = cut_once 32 (escaped t) (escaped f) one later (spaceless (escaped t) (no_space_escaped t)) (spaceless (escaped f) (no_space_escaped f))
    (sym (apart t [] one line refl) ∙ apart f (g ∷ fs) other line same) in
    not_cut 32 one (escaped g) (fields_text fs ++ other) (check_spaceless (fields_text (t ∷ []))) (apart g fs other one both.1)

pub text_or_entry : (t : Text) (e : Entry) → text_line t ≢ entry_line e
text_or_entry t e same = one_field t e.address e.name (decimal e.size ∷ mark_field e.mark ∷ head_fields e.head) same

-- ---- the one field of a line

abbrev items : Vec ℕ Global → Text
items v = v.items

pub only_field : (fields rest : List (Vec ℕ Global)) (v : Vec ℕ Global) (t : Text) → fields ≡ rest ++ v ∷ [] → map items fields ≡ t ∷ [] → v.items ≡ t
only_field fields rest v t last are = go rest (sym (ap (λ (vs : List (Vec ℕ Global)). map items vs) last) ∙ are)
  where
    go : (before : List (Vec ℕ Global)) → map items (before ++ v ∷ []) ≡ t ∷ [] → v.items ≡ t
    go [] one = cc
    go (x ∷ []) one = cc
    go (x ∷ y ∷ before) one = cc

pub some_field : (fields : List (Vec ℕ Global)) (t : Text) → length fields ≤ 0 → map items fields ≡ t ∷ [] → ⊥
some_field [] t none are = cc
some_field (v ∷ fields) t none are = omega arith
