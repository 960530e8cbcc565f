-- The first bytes of a file can be given as a response, and have its rules.
use Rattle.std.proofs.Common.{◌∙◌, length, ap, arith}
use Rattle.std.proofs.lemmas.List.{length-take}
use Rattle.site_records.specs.Received.{has_lost}
use Rattle.site_records.proofs.FirstVersionLaws.{file_can_be_given, file_rules, if_ok}
use Rattle.site_records.proofs.first_version.file_chain.Goals as goal

pub new-requires : goal.new-requires
new-requires c =
    let body = ap length c.in_ok-body.ensures.items in
    let front = length-take c.min-kept.result c.args.file.now in
    let kept = c.min-kept.ensures in
    file_can_be_given c.in_ok-body.body.items (omega (arith, body, front, kept))

pub returns-clause-rules : goal.returns-clause-rules
returns-clause-rules c =
    if_ok c.chain_of.result (λ hops h. h ∙ file_rules c.new.result c.in_ok-body.body.items c.args.file.now c.min-kept.result c.new.ensures c.in_ok-body.ensures.items c.min-kept.ensures) c.chain_of.ensures.rules

pub returns-clause-lost : goal.returns-clause-lost
returns-clause-lost c = if_ok c.chain_of.result (λ hops h. ap has_lost h) c.chain_of.ensures.hops
