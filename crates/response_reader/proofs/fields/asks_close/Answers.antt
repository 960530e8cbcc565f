use Rattle.std.proofs.Common.{sym, rules}
use Rattle.std.specs.Prelude.{codes}
use Rattle.response_reader.specs.Fields.{has_close}
use Rattle.response_reader.proofs.FieldsLemmas.{any_seen}
use Rattle.response_reader.proofs.fields.asks_close.Goals as goal

pub returns-then-has_close : goal.returns-then-has_close
returns-then-has_close c =
    sym (any_seen has_close c.args.buf.now (codes "connection") c.args.fields.now c.loop-field.field-index _ c.loop-field-test.true
    (sym c.if-is_named.ensures) (search rules))
