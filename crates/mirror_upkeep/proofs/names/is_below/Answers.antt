-- A directory that is one of the names, or none.
use Rattle.std.proofs.Common.{◌∙◌, arith, map, refl, sym, take}
use Rattle.mirror_upkeep.specs.inner.Lent.{lent_text}
use Rattle.mirror_upkeep.proofs.NameLaws.{above_found, none_above}
use Rattle.mirror_upkeep.proofs.names.is_below.Goals as goal

pub returns-then-is_among : goal.returns-then-is_among
returns-then-is_among c =
    sym (above_found (map lent_text c.args.names.now) c.args.name.now (take c.loop-i.i c.args.name.now) c.loop-i.i (omega arith) c.if-name-i-eq47.true refl (sym c.is_among.ensures ∙ c.if-is_among.true))

pub returns : goal.returns
returns c =
    sym (none_above (map lent_text c.args.names.now) c.args.name.now (λ k below at. c.loop-i.invariant k (omega arith) at))
