use Rattle.std.proofs.Common.{◌≡◌, ◌↔◌, ℕ, ◌+◌, ◌<◌, ◌≤◌, IsTrue, not, cond, true, false, length, get_or, refl, ap, arith}
use Rattle.std.proofs.lemmas.List.{take_all}
use Rattle.std.proofs.lemmas.List.Sums.{count_by_more_yes, count_by_more_no, sum_by-take-le}
use Rattle.part_match.specs.inner.Cuts.{least_octets}
use Rattle.part_match.proofs.matcher.is_long_enough.Goals as goal
use Rattle.part_match.proofs.matcher.is_long_enough.Goals.{then-takes_one+in-Some, else-takes_one}

enough : (least have : ℕ) → least ≤ have → IsTrue true ↔ (least ≤ have)
enough least have h = (λ yes_. h, λ long. refl)

too_few : (least have : ℕ) → have < least → IsTrue false ↔ (least ≤ have)
too_few least have h = (λ no_. cc, λ long. absurd (omega arith))

pub loop-part-preserved : goal.loop-part-preserved
loop-part-preserved g c =
    let parts = c.args.parts.now in
    let i = c.loop-part.part-index in
    let part = c.part-item.result in
    elim c.if-takes_one.branch [
      | then-takes_one+in-Some w ↦ (
          let one : not (g.P.Part.is_run (get_or parts i part)) ≡ true = cc in
          let taken = ap length w.in-Some.ensures in
          let more = count_by_more_yes (λ p. not (g.P.Part.is_run p)) parts i part c.loop-part-test.true one in
          rw (w.rest-is, more) (omega (arith, taken, c.loop-part.invariant)))
      | else-takes_one w ↦ (
          let run : not (g.P.Part.is_run (get_or parts i part)) ≡ false = cc in
          let same = count_by_more_no (λ p. not (g.P.Part.is_run p)) parts i part c.loop-part-test.true run in
          rw (w.rest-is, same) c.loop-part.invariant)
    ]

pub returns-in_default : goal.returns-in_default
returns-in_default g c =
    let parts = c.args.parts.now in
    let i = c.loop-part.part-index in
    let part = c.part-item.result in
    let one : not (g.P.Part.is_run (get_or parts i part)) ≡ true = cc in
    let none = ap length c.in_default.ensures in
    let more = count_by_more_yes (λ p. not (g.P.Part.is_run p)) parts i part c.loop-part-test.true one in
    let most = sum_by-take-le (λ p. cond (not (g.P.Part.is_run p)) 1 0) parts (i + 1) in
    too_few (least_octets g.P.Part.is_run parts) (length (g.T.Text.octets c.args.text)) (omega (arith, none, more, most, c.loop-part.invariant))

pub returns : goal.returns
returns g c =
    let parts = c.args.parts.now in
    let whole = ap (least_octets g.P.Part.is_run) (take_all c.loop-part.part-index parts c.loop-part-test.false) in
    enough (least_octets g.P.Part.is_run parts) (length (g.T.Text.octets c.args.text)) (omega (arith, whole, c.loop-part.invariant))
