use Rattle.std.proofs.Common.{sym, refl, ◌∙◌, true≢false, below_more, arith}
use Rattle.std.proofs.lemmas.Bool.{false≢true}
use Rattle.frontier_core.specs.Plans.{policy}
use Rattle.frontier_core.specs.inner.TableCalls.{key_numbered}
use Rattle.frontier_core.proofs.Stuck.{overfull_at, stuck_of}
use Rattle.frontier_core.proofs.board.Board.is_overfull.Goals as goal

pub returns-then-is_stuck : goal.returns-then-is_stuck
returns-then-is_stuck c =
    let s = c.args.self.now in
    let (d, k, stuck) = c.is_stuck.ensures.0 c.if-is_stuck.true in
    let full = c.if-len-plan.false in
    let len = c.len.ensures.value in
    ((λ so. overfull_at (policy c.args.plan.now) s (key_numbered s.entries c.loop-at.at) (omega (arith, full, len)) d k stuck), λ so. refl)

pub loop-at-preserved : goal.loop-at-preserved
loop-at-preserved c =
    below_more _ _ c.loop-at.invariant (λ d k stuck. true≢false (sym (c.is_stuck.ensures.1 (d, k, stuck)) ∙ c.if-is_stuck.false))

pub returns : goal.returns
returns c =
    let s = c.args.self.now in (
      (λ so. absurd (false≢true so)),
      λ over. (
          let (i, lt, d, k, stuck) = stuck_of (policy c.args.plan.now) s over in
          let len = c.len-at-end.ensures.value in
          let end = c.loop-at-test.false in
          absurd (c.loop-at.invariant i (omega (arith, lt, len, end)) d k stuck)),
    )
