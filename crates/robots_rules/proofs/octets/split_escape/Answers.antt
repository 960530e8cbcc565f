use Rattle.std.proofs.Common.{◌≡◌, ◌+◌, ◌*◌, get_or, arith, rules}
use Rattle.robots_rules.proofs.OctetsLemmas.{KeepsFirst_from_no_escape, normal_at_escape}
use Rattle.std.proofs.lemmas.List.{take_rest}
use Rattle.std.specs.Char.{digit_value}
use Rattle.robots_rules.proofs.octets.split_escape.Goals as goal

pub returns-in_default : goal.returns-in_default
returns-in_default c = λ m. KeepsFirst_from_no_escape m _ (λ long percent high low. grind arith)

pub returns-in_err-high : goal.returns-in_err-high
returns-in_err-high c = λ m. rw c.from_residual.ensures (KeepsFirst_from_no_escape m _ (λ long percent high low. search rules))

pub returns-in_err-low : goal.returns-in_err-low
returns-in_err-low c = λ m. rw c.from_residual-in_err-low.ensures (KeepsFirst_from_no_escape m _ (λ long percent high low. search rules))

pub returns : goal.returns
returns c =
    let bytes = c.args.text.now in
    let value : c.in_ok-high.high * 16 + c.in_ok-low.low ≡ 16 * digit_value (get_or bytes 1 0) + digit_value (get_or bytes 2 0) = grind arith in
    λ m. rw (take_rest bytes 3, value) (normal_at_escape m bytes (omega arith) (search rules) (search rules) (search rules))
