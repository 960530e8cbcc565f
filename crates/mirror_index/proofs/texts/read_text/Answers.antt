-- The one field of a line, if that is its own.
use Rattle.std.proofs.Common.{◌≡◌, ◌∷◌, ◌∙◌, [], Some, true, false, ap, arith, sym}
use Rattle.entry_lines.specs.Fields.{fields_text}
use Rattle.mirror_index.specs.Entries.{check_of, text_line}
use Rattle.mirror_index.proofs.FieldLaws.{check_spaceless}
use Rattle.mirror_index.proofs.TextLaws.{only_field, some_field}
use Rattle.mirror_index.proofs.texts.read_text.Goals as goal

pub returns-in_default-clause-back : goal.returns-in_default-clause-back
returns-in_default-clause-back c t same =
    let fields = c.in_ok-fields.ensures (t ∷ []) (check_of (fields_text (t ∷ []))) (check_spaceless (fields_text (t ∷ []))) same in
    absurd (some_field c.in_ok-fields.fields.items t (omega (arith, c.in_default.ensures.cases.0)) fields)

pub returns-then-is_own-clause-back : goal.returns-then-is_own-clause-back
returns-then-is_own-clause-back c t same =
    let fields = c.in_ok-fields.ensures (t ∷ []) (check_of (fields_text (t ∷ []))) (check_spaceless (fields_text (t ∷ []))) same in
    ap Some (only_field c.in_ok-fields.fields.items _ c.in-Some.text t c.in-Some.ensures.items fields)

pub returns-clause-back : goal.returns-clause-back
returns-clause-back c t same =
    let fields = c.in_ok-fields.ensures (t ∷ []) (check_of (fields_text (t ∷ []))) (check_spaceless (fields_text (t ∷ []))) same in
    let this = only_field c.in_ok-fields.fields.items _ c.in-Some.text t c.in-Some.ensures.items fields in
    let yes : c.in_ok-is_own.is_own ≡ true = c.in_ok-is_own.ensures.1 (same ∙ ap text_line (sym (c.as_slice.ensures.value ∙ this))) in
    let no : c.in_ok-is_own.is_own ≡ false = c.if-is_own.false in
    cc
