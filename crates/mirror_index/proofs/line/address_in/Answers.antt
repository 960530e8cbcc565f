-- An address is a text.
use Rattle.mirror_index.proofs.EntryLaws.{address_utf8}
use Rattle.mirror_index.proofs.line.address_in.Goals as goal

pub returns-in_default : goal.returns-in_default
returns-in_default c is = absurd (c.in_default.ensures.cases.0 (address_utf8 c.args.field.now is))
