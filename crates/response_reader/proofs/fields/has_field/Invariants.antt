use Rattle.std.proofs.Common.{◌≡◌, [], take}
use Rattle.response_reader.proofs.FieldsLemmas.{seen}
use Rattle.response_reader.proofs.fields.has_field.Given as goal

abbrev pub invariant-loop-field : goal.invariant-loop-field
invariant-loop-field l = seen l.buf l.name (take l.field-index l.fields) ≡ []
