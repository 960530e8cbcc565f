-- How long the line of an entry can be.
use Rattle.std.proofs.Common.{◌≡◌, ◌≤◌, ◌+◌, ◌*◌, List, [], ◌∷◌, length, Option, arith, subst, ap, ◌∙◌}
use Rattle.std.proofs.lemmas.Fmt.{length-decimal-le}
use Rattle.std.proofs.lemmas.List.{length-append, length-take}
use Rattle.std.specs.Fmt.{decimal}
use Rattle.hex.specs.Hex.{encode_lower, lower_digits}
use Rattle.hex.proofs.HexLemmas.{length-encode_with}
use Rattle.sha2.specs.Sha256.{sha256}
use Rattle.entry_lines.specs.Escapes.{escaped}
use Rattle.entry_lines.specs.Fields.{fields_text}
use Rattle.entry_lines.proofs.EscapeLaws.{length_escaped}
use Rattle.mirror_index.specs.Entries.{Entry, HasParts, IsMark, KeptHead, Text, check_of, entry_fields, entry_line, mark_field, value_field}
use Rattle.mirror_index.specs.declared.entry.Mark.{Mark}
use Rattle.mirror_index.specs.declared.entry.Mark.TheVariants.{Changed, Digest}
use Rattle.mirror_index.specs.declared.entry.TheConstants.{FEW, MAX_LINE}

check_length : (text : Text) → length (check_of text) ≤ 16
unfolding check_of
check_length text = omega (arith, length-take 16 (encode_lower (sha256 text)))

mark_length : (mark : Mark) → IsMark mark → length (mark_field mark) ≤ 64
mark_length (Digest digest) is = let size = is.size in omega (arith, length-encode_with lower_digits digest)
mark_length (Changed time) is = omega (arith, length-decimal-le 20 time (omega arith) (omega arith) is)

field_length : (f : Text) (fs : List Text) → length (fields_text (f ∷ fs)) ≤ 2 * length f + 1 + length (fields_text fs)
field_length f fs = omega (arith, length-append (escaped f) (32 ∷ fields_text fs), length_escaped f)

eight : (a b c d e f g h : Text) → length (fields_text (a ∷ b ∷ c ∷ d ∷ e ∷ f ∷ g ∷ h ∷ []))
    ≤ 2 * length a + 2 * length b + 2 * length c + 2 * length d + 2 * length e + 2 * length f + 2 * length g + 2 * length h + 8
eight a b c d e f g h = omega (
  arith,
  field_length a (b ∷ c ∷ d ∷ e ∷ f ∷ g ∷ h ∷ []),
  field_length b (c ∷ d ∷ e ∷ f ∷ g ∷ h ∷ []),
  field_length c (d ∷ e ∷ f ∷ g ∷ h ∷ []),
  field_length d (e ∷ f ∷ g ∷ h ∷ []),
  field_length e (f ∷ g ∷ h ∷ []),
  field_length f (g ∷ h ∷ []),
  field_length g (h ∷ []),
  field_length h [],
)

-- texts of few bytes make no long line
pub line_length : (e : Entry) → HasParts e → length e.address ≤ FEW → length e.name ≤ FEW → length (value_field e.head.content_type) ≤ FEW + 1
    → length (value_field e.head.etag) ≤ FEW + 1 → length (value_field e.head.last_modified) ≤ FEW + 1 → length (entry_line e) ≤ MAX_LINE
line_length e parts address name kind tag changed =
    let size : length (decimal e.size) ≤ 20 = length-decimal-le 20 e.size (omega arith) (omega (arith, parts.size)) parts.size in
    let status : length (decimal e.head.status) ≤ 5 = length-decimal-le 5 e.head.status (omega arith) (omega (arith, parts.status)) (omega (arith, parts.status)) in
    let mark : length (mark_field e.mark) ≤ 64 = mark_length e.mark parts.mark in
    omega (
      arith,
      length-append (fields_text (entry_fields e)) (check_of (fields_text (entry_fields e))),
      check_length (fields_text (entry_fields e)),
      eight e.address e.name (decimal e.size) (mark_field e.mark) (decimal e.head.status) (value_field e.head.content_type) (value_field e.head.etag) (value_field e.head.last_modified),
    )

-- the same of texts that are an entry's
pub surely_short : (e : Entry) (head : KeptHead) (address name : Text) (kind tag changed : Option Text) → HasParts e → head ≡ e.head → address ≡ e.address → name ≡ e.name
    → kind ≡ head.content_type → tag ≡ head.etag → changed ≡ head.last_modified → length address ≤ FEW → length name ≤ FEW → length (value_field kind) ≤ FEW + 1
    → length (value_field tag) ≤ FEW + 1 → length (value_field changed) ≤ FEW + 1 → length (entry_line e) ≤ MAX_LINE
surely_short e head address name kind tag changed parts h a n k t c la ln lk lt lc =
    line_length e parts
    (subst (λ (x : Text). length x ≤ FEW) a la)
    (subst (λ (x : Text). length x ≤ FEW) n ln)
    (subst (λ (x : Option Text). length (value_field x) ≤ FEW + 1) (k ∙ ap (λ (x : KeptHead). x.content_type) h) lk)
    (subst (λ (x : Option Text). length (value_field x) ≤ FEW + 1) (t ∙ ap (λ (x : KeptHead). x.etag) h) lt)
    (subst (λ (x : Option Text). length (value_field x) ≤ FEW + 1) (c ∙ ap (λ (x : KeptHead). x.last_modified) h) lc)
