use Rattle.std.proofs.Common.{◌≡◌, refl, false, arith, rules, ◌-◌}
use Rattle.std.specs.Cmp.Lexicographic.{slice_cmp}
use Rattle.std.specs.Ordering.{nat_cmp, is_lt}
use Rattle.std.proofs.lemmas.Bool.{false≢true}
use Rattle.address.specs.AddressOrder.{IsBefore}
use Rattle.workers.proofs.ComparisonLaws.{ascends_more, ascends_whole, not_ascending}
use Rattle.workers.proofs.comparison.ascend.Goals as goal

pub loop-k-preserved : goal.loop-k-preserved
loop-k-preserved g c =
    let page = c.index-things-k in
    let next = c.index-things-k-in-loop-k in
    let key = g.T.Named.text_of in
    let before : IsBefore (key page.result) (key next.result) = search rules in
    ascends_more key c.args.things.now (c.loop-k.k - 1) c.loop-k.k page.result next.result (omega arith) (omega arith) page.is next.is before c.loop-k.invariant

pub returns : goal.returns
returns g c = ((λ so. ascends_whole g.T.Named.text_of c.args.things.now c.loop-k.k (omega arith) c.loop-k.invariant), λ up. refl)

pub returns-then-not-is_lt : goal.returns-then-not-is_lt
returns-then-not-is_lt g c =
    let page = c.index-things-k in
    let next = c.index-things-k-in-loop-k in
    let key = g.T.Named.text_of in
    let behind : is_lt (slice_cmp nat_cmp (key page.result) (key next.result)) ≡ false = search rules in (
      (λ so. absurd (false≢true so)),
      λ up. absurd (not_ascending key c.args.things.now (c.loop-k.k - 1) c.loop-k.k page.result next.result (omega arith) (omega arith) page.is next.is behind up),
    )
