use Rattle.std.proofs.Common.{rules, ◌≡◌, ◌+◌, length, map, IsTrue, inl, inr, subst, sym, ◌∙◌, arith}
use Rattle.std.proofs.lemmas.Bool.{both_ways, cases_lt}
use Rattle.std.proofs.lemmas.List.{length-map}
use Rattle.local_names.specs.Names.{numbered_by}
use Rattle.local_names.specs.inner.Taken.{lent_text, IsNameTaken}
use Rattle.local_names.proofs.NamingLaws.{numbered_name-zero}
use Rattle.local_names.proofs.TakenLaws.{taken_below}
use Rattle.local_names.proofs.free_name.first_free.Goals.{in-Some, in-None}
use Rattle.local_names.proofs.free_name.first_free.Goals as goal

pub loop-number-init : goal.loop-number-init
loop-number-init c =
    elim c.match-get.branch [
      | in-Some w ↦ λ k below. c.requires.passed w.in-Some.number.now k (sym w.in-Some.ensures.value) (omega (arith, below, w.start-is))
      | in-None w ↦ λ k below.
          let first : 0 ≡ k = omega (arith, below, w.start-is) in
          subst (λ n. IsNameTaken (map lent_text c.args.sorted.now) c.args.next.now (numbered_by c.args.has_endings c.args.plain.now n)) first (subst (IsNameTaken (map lent_text c.args.sorted.now) c.args.next.now) (sym (numbered_name-zero c.args.has_endings c.args.plain.now)) (inl (w.is_directory.ensures.0 w.if-is_directory.true)))
    ]

pub loop-number-preserved : goal.loop-number-preserved
loop-number-preserved c =
    let found : IsTrue c.is_taken.result = search rules in
    let this : IsNameTaken (map lent_text c.args.sorted.now) c.args.next.now (numbered_by c.args.has_endings c.args.plain.now c.loop-number.number) =
    subst (IsNameTaken (map lent_text c.args.sorted.now) c.args.next.now) (c.as_str.ensures.value ∙ c.in_ok-name.ensures) (c.is_taken.ensures.0 found) in
    λ k below. elim (cases_lt k c.loop-number.number) [
      | inl less ↦ c.loop-number.invariant k less
      | inr last ↦ (let at : c.loop-number.number ≡ k = omega (arith, last, below) in subst (λ j. IsNameTaken (map lent_text c.args.sorted.now) c.args.next.now (numbered_by c.args.has_endings c.args.plain.now j)) at this)
    ]

pub returns-then-not-is_taken : goal.returns-then-not-is_taken
returns-then-not-is_taken c =
    let few = c.requires.few in
    let size = c.len.ensures.small in
    record {
      small = omega arith;
      name = c.in_ok-name.ensures;
      free = λ taken. absurd (both_ways c.is_taken.result c.if-not-is_taken.true (c.is_taken.ensures.1 (subst (IsNameTaken (map lent_text c.args.sorted.now) c.args.next.now) (sym c.as_str.ensures.value) taken)));
      before = c.loop-number.invariant;
    }

pub unreachable-requires : goal.unreachable-requires
unreachable-requires c =
    let size = c.len.ensures.len in
    let bound = c.len.ensures.small in
    let few = c.requires.few in
    let most = taken_below c.args.has_endings (map lent_text c.args.sorted.now) c.args.next.now c.args.plain.now (c.len.result + length c.args.sorted.now + 1) (omega arith) (λ k below. c.loop-number.invariant k (omega arith)) in
    let long = length-map c.args.sorted.now lent_text in
    omega arith
