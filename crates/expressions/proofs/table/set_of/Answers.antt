-- The set is that of the list's element.
use Rattle.std.proofs.Common.{◌∙◌, sym}
use Rattle.expressions.proofs.Tables.{set_is}
use Rattle.expressions.proofs.table.set_of.Goals as goal

pub returns : goal.returns
returns c =
    c.as_slice.ensures.value ∙ sym (set_is c.args.sets.now c.args.number c.index-sets-number.result c.requires (sym c.index-sets-number.is))
