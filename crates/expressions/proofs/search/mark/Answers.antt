-- States that come before in the order have their flags.
use Rattle.std.proofs.Common.{arith}
use Rattle.expressions.proofs.Accepting.{flags_below, flags_done, flags_more}
use Rattle.expressions.proofs.search.mark.Goals as goal

pub loop-state-preserved : goal.loop-state-preserved
loop-state-preserved c =
    λ other place alike next.
    let marks = c.loop-state.invariant other place alike next in
    let below = flags_below c.args.nfa.now c.args.order.now other place c.loop-state.here c.loop-state.state-index c.requires.order c.loop-state-test.true marks in
    flags_more c.args.nfa.now c.args.order.now other place c.loop-state.here c.loop-state.state-index c.leads.result (omega (arith, c.requires.order.within c.loop-state.state-index c.loop-state-test.true, c.args.nfa.now.ranks_len, c.requires.room_here, c.loop-state.auto.here)) (c.leads.ensures other place alike next below) marks

pub returns-clause-flags : goal.returns-clause-flags
returns-clause-flags c =
    λ other place alike next.
    flags_done c.args.nfa.now c.args.order.now other place c.loop-state.here c.requires.order (λ k h. c.loop-state.invariant other place alike next k (omega (arith, h, c.loop-state-test.false)))
