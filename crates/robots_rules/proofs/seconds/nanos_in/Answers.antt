use Rattle.std.proofs.Common.{◌∙◌, ◌+◌, ◌*◌, ◌++◌, take, ap, sym, arith, codes}
use Rattle.std.specs.Str.Parse.{digits_value}
use Rattle.robots_rules.proofs.SecondsLemmas.{few_more, padded, place_more}
use Rattle.robots_rules.proofs.seconds.nanos_in.Goals as goal

pub loop-place-preserved : goal.loop-place-preserved
loop-place-preserved c =
    let place = c.loop-place.place in
    let digits = c.args.digits.now ++ codes "000000000" in
    let before = digits_value 10 (take place digits) in
    record {
      few = few_more c.loop-place.nanos c.digit_at.result place c.loop-place.invariant.few c.digit_at.ensures.few;
      so = ap (λ n. n * 10 + c.digit_at.result) c.loop-place.invariant.so
          ∙ ap (λ d. before * 10 + d) c.digit_at.ensures.value
          ∙ sym (place_more digits place (padded c.args.digits.now place (omega arith)));
    }
