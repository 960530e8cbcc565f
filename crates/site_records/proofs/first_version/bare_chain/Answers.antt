-- A status 404 without a body can be given as a response, and allows everything; a fault allows nothing.
use Rattle.std.proofs.Common.{not, ◌∙◌, cond, length, sym, ap, arith}
use Rattle.answer_notes.specs.RobotsAnswers.{all_allowed, none_allowed}
use Rattle.site_records.specs.Received.{has_lost}
use Rattle.site_records.proofs.FirstVersionLaws.{missing_can_be_given, missing_rules, if_ok}
use Rattle.site_records.proofs.first_version.bare_chain.Goals as goal

pub returns-then-not-allowed-clause-rules : goal.returns-then-not-allowed-clause-rules
returns-then-not-allowed-clause-rules c = if_ok c.chain_of.result (λ hops h. h ∙ ap (λ b. cond b all_allowed none_allowed) (sym c.if-not-allowed.true)) c.chain_of.ensures.rules

pub new-requires-2 : goal.new-requires-2
new-requires-2 c =
    let body = ap length c.new.ensures.items in
    missing_can_be_given c.new.result.items (omega (arith, body))

pub returns-clause-rules : goal.returns-clause-rules
returns-clause-rules c =
    if_ok c.chain_of-2.result (λ hops h. h ∙ missing_rules c.new-2.result c.new.result.items c.new-2.ensures ∙ ap (λ b. cond b all_allowed none_allowed) (sym c.if-not-allowed.false))
    c.chain_of-2.ensures.rules

pub returns-then-not-allowed-clause-lost : goal.returns-then-not-allowed-clause-lost
returns-then-not-allowed-clause-lost c = if_ok c.chain_of.result (λ hops h. ap has_lost h ∙ ap not (sym c.if-not-allowed.true)) c.chain_of.ensures.hops

pub returns-clause-lost : goal.returns-clause-lost
returns-clause-lost c = if_ok c.chain_of-2.result (λ hops h. ap has_lost h ∙ ap not (sym c.if-not-allowed.false)) c.chain_of-2.ensures.hops
