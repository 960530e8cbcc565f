use Rattle.std.proofs.Common.{◌≡◌, ◌++◌, [], ◌∷◌, ℕ, List, sym, ◌∙◌, ap, subst, arith}
use Rattle.std.proofs.lemmas.Grind.{common_steps}
use Rattle.entry_lines.specs.Escapes.{escaped}
use Rattle.entry_lines.specs.Fields.{fields_of}
use Rattle.entry_lines.specs.Lines.{ArePlain}
use Rattle.entry_lines.proofs.FieldLaws.{fields_push, read_fields, plain_fields, reads_back, reads_cut}
use Rattle.entry_lines.proofs.fields.push_field.Goals as goal

pub returns-clause-pushed : goal.returns-clause-pushed
returns-clause-pushed c fields is =
    let added : c.push.new.self.items ≡ c.args.entry.now.items ++ (escaped c.args.field.now ++ 32 ∷ []) = grind (arith, common_steps) in
    added ∙ ap (λ (l : List ℕ). l ++ (escaped c.args.field.now ++ 32 ∷ [])) is ∙ sym (fields_push fields c.args.field.now)

pub returns-clause-back : goal.returns-clause-back
returns-clause-back c fields is = ap fields_of (returns-clause-pushed c fields is) ∙ read_fields (fields ++ c.args.field.now ∷ [])

pub returns-clause-plain : goal.returns-clause-plain
returns-clause-plain c fields is = subst ArePlain (sym (returns-clause-pushed c fields is)) (plain_fields (fields ++ c.args.field.now ∷ []))

pub returns-clause-index : goal.returns-clause-index
returns-clause-index c = (reads_back, reads_cut)
