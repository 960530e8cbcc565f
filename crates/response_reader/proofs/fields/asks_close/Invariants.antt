use Rattle.std.proofs.Common.{◌≡◌, take, false}
use Rattle.std.specs.Prelude.{codes}
use Rattle.std.specs.List.{list_any}
use Rattle.response_reader.specs.Fields.{has_close}
use Rattle.response_reader.proofs.FieldsLemmas.{seen}
use Rattle.response_reader.proofs.fields.asks_close.Given as goal

abbrev pub invariant-loop-field : goal.invariant-loop-field
invariant-loop-field l = list_any has_close (seen l.buf (codes "connection") (take l.field-index l.fields)) ≡ false
