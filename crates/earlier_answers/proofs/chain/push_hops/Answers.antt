-- One more hop is added.
use Rattle.std.proofs.Common.{◌∙◌, sym}
use Rattle.earlier_answers.proofs.TextLaws.{one_added}
use Rattle.earlier_answers.proofs.chain.push_hops.Goals as goal

pub loop-at-preserved : goal.loop-at-preserved
loop-at-preserved c =
    one_added c.args.hops.now c.loop-at.at-index c.loop-at-item.result c.in-Whole.given c.args.text.now.items c.loop-at.text.items c.push_hop.new.text.items c.loop-at-test.true c.loop-at-item.is c.in-Whole.is
    (sym c.in_ok-push_hop.ensures.is ∙ c.if-not-branch.false) (c.in_ok-push_hop.ensures.text c.if-not-branch.false) c.in_ok-push_hop.ensures.told c.loop-at.invariant
