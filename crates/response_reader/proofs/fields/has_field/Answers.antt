use Rattle.std.proofs.Common.{sym, ap, rules}
use Rattle.std.specs.Option.{is_some}
use Rattle.response_reader.proofs.FieldsLemmas.{first_seen}
use Rattle.response_reader.proofs.fields.has_field.Goals as goal

pub returns-then-is_named : goal.returns-then-is_named
returns-then-is_named c =
    sym (ap is_some (first_seen c.args.buf.now c.args.name.now c.args.fields.now c.loop-field.field-index _ c.loop-field-test.true
    (sym c.if-is_named.ensures) c.loop-field.invariant))
