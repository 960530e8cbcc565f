-- The fields so far are the first of those that were said.
use Rattle.std.proofs.Common.{◌≡◌, ◌++◌, List, length, map}
use Rattle.entry_lines.specs.Fields.{fields_text}
use Rattle.mirror_index.specs.Cuts.{Lacks}
use Rattle.mirror_index.specs.Entries.{Text}
use Rattle.mirror_index.proofs.FieldLaws.{FieldsLeft}
use Rattle.mirror_index.proofs.line.fields_of.Given as goal

abbrev pub invariant-fields : goal.invariant-fields
invariant-fields l = (said : List Text) (after : Text) → Lacks 32 after → l.line ≡ fields_text said ++ after → FieldsLeft said after (map (λ f. f.items) l.fields.items) l.rest

abbrev pub decreases-fields : goal.decreases-fields
decreases-fields l = length l.rest
