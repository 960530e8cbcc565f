-- At the first other name, or after the last place, no entry of another address is left.
use Rattle.std.proofs.Common.{◌≡◌, Bool, false, true, arith}
use Rattle.std.specs.Prelude.{MatchBool}
use Rattle.std.proofs.lemmas.Bool.{false≢true}
use Rattle.mirror_upkeep.proofs.ByNameLaws.{no_other}
use Rattle.mirror_upkeep.proofs.by_name.is_anothers_from.Goals as goal

at_false : (P Q : Type 0) (b : Bool) → b ≡ false → MatchBool b P Q → Q
at_false P Q true e holds = cc
at_false P Q false e holds = holds

pub returns-then-not-is_named : goal.returns-then-not-is_named
returns-then-not-is_named c by before = (
  λ e. absurd (false≢true e),
  λ is. absurd (no_other c.args.entries.now c.args.by_name.now c.args.name.now c.args.at.now c.args.first c.loop-k.k (omega arith) by before c.loop-k.invariant
      (λ inside named. at_false _ _ c.is_named.result c.if-not-is_named.true c.is_named.ensures named) is),
)

pub returns : goal.returns
returns c by before = (
  λ e. absurd (false≢true e),
  λ is. absurd (no_other c.args.entries.now c.args.by_name.now c.args.name.now c.args.at.now c.args.first c.loop-k.k (omega arith) by before c.loop-k.invariant
      (λ inside named. absurd (omega arith)) is),
)
