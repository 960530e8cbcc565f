use Rattle.std.proofs.Common.{◌≢◌, length, arith}
use Rattle.robots_rules.proofs.KeptLemmas.{rule_by-is, keys-put}
use Rattle.robots_rules.proofs.rule.is_new.Goals as goal

pub returns : goal.returns
returns c =
    let new = c.args.rule.now in
    let key = c.in_ok-key.field-0 in
    let some : length new.pattern ≢ 0 = λ none. let n = c.octets.ensures in absurd (omega arith) in
    let put = keys-put c.args.seen.now.keys c.insert.new.self.keys key new c.in_ok-insert.field-0 some (rule_by-is key new c.in_ok-key.ensures.allows c.in_ok-key.ensures.pattern) c.in_ok-insert.ensures.added c.in_ok-insert.ensures.keys in
    record { seen = put.0; new = put.1 }
