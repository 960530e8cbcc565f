use Rattle.std.proofs.Common.{◌≡◌, ◌∙◌, ℕ, ◌+◌, ◌*◌, List, ap, sym, arith, min, drop, get_or}
use Rattle.std.proofs.lemmas.List.{drop_more}
use Rattle.std.specs.Char.{digit_value}
use Rattle.std.specs.Str.Parse.{digits_value_after}
use Rattle.robots_rules.proofs.SecondsLemmas.{capped, digit_among}
use Rattle.robots_rules.proofs.seconds.seconds_in.Goals as goal

pub loop-octet-preserved : goal.loop-octet-preserved
loop-octet-preserved c =
    let digits = c.args.digits.now in
    let i = c.loop-octet.octet-index in
    let d = get_or digits i 0 in
    let rest = drop (i + 1) digits in
    let digit = digit_among digits i 0 c.requires c.loop-octet-test.true in
    let seconds = c.loop-octet.seconds in
    let next = c.min-seconds.result in
    let same : min next 60 ≡ min (seconds * 10 + digit_value d) 60 = omega (arith, digit.0, digit.1, digit.2, c.min-seconds.ensures, c.from.ensures) in
    record {
      few = omega (arith, c.min-seconds.ensures);
      so = capped next (seconds * 10 + digit_value d) rest same
          ∙ sym (ap (λ (xs : List ℕ). min (digits_value_after 10 seconds xs) 60) (drop_more digits i 0 c.loop-octet-test.true))
          ∙ c.loop-octet.invariant.so;
    }
