-- Each hop whose head can be read again is a response.
use Rattle.std.proofs.Common.{◌∙◌, subst, sym}
use Rattle.earlier_answers.specs.Texts.{AreWhole}
use Rattle.earlier_answers.proofs.TextLaws.{are_whole}
use Rattle.earlier_answers.proofs.chain.chain_text.Goals as goal

pub returns-then-branch-clause-whole : goal.returns-then-branch-clause-whole
returns-then-branch-clause-whole c =
    subst AreWhole c.hops.ensures.value (are_whole c.hops.result.now (sym c.in_ok-push_hops.ensures.is ∙ c.if-branch.true) (c.in_ok-push_hops.ensures.told c.if-branch.true))
