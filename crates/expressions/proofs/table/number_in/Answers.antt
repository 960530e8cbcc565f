-- An equal set is the one that is looked for.
use Rattle.std.proofs.Common.{◌<◌, ◌∙◌, length, sym, arith}
use Rattle.std.proofs.lemmas.Slice.Eq.{slice_eq-Decides}
use Rattle.std.specs.Cmp.{booleans_Decides}
use Rattle.expressions.proofs.table.number_in.Goals as goal

pub returns-then-eq : goal.returns-then-eq
returns-then-eq c =
    let inside : c.loop-number.number < length c.args.sets.now = omega arith in
    (inside, sym c.set_of.ensures ∙ (slice_eq-Decides booleans_Decides _ _ _ c.eq.ensures).0 c.if-eq.true)
