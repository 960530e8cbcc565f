-- What is in the table is there in whatever order.
use Rattle.std.proofs.Common.{refl}
use Rattle.std.proofs.lemmas.Bool.{false≢true}
use Rattle.std.proofs.lemmas.List.Sorted.{All-permutation, IsPermutation-refl}
use Rattle.workers.specs.inner.Noted.{StandsPage, StandsRules}
use Rattle.workers.specs.inner.Notes.{addresses, origins}
use Rattle.workers.proofs.ComparisonLaws.{once_ascending}
use Rattle.workers.proofs.comparison.agree.Goals as goal

pub all_are_noted-requires : goal.all_are_noted-requires
all_are_noted-requires g c =
    let told = rw c.deref.ensures.value at (c.if-not-pages_stand.ensures.0 refl) in
    record {
      once = rw c.deref-3.ensures.value (once_ascending _ (c.if-not-is_once.ensures.ascending refl));
      stand = rw c.deref-3.ensures.value (All-permutation (StandsPage c.args.frontier.now.state) _ _ c.order_and_ascend-is_once.ensures.permutation told);
    }

pub returns : goal.returns
returns g c =
    let pages = c.order_and_ascend-is_once.new.things.items in
    let sets = c.order_and_ascend-is_once_asked.new.things.items in
    let told = rw c.deref.ensures.value at (c.if-not-pages_stand.ensures.0 refl) in
    let ruled = rw c.deref-2.ensures.value at (c.if-not-all_rules_stand.ensures.0 refl) in
    record {
      pages = c.order_and_ascend-is_once.ensures.permutation;
      rules = c.order_and_ascend-is_once_asked.ensures.permutation;
      order = λ so. record {
        pages = c.if-not-is_once.ensures.ascending refl;
        rules = c.if-not-is_once_asked.ensures.ascending refl;
      };
      agrees = (
        (λ so. record {
          once = once_ascending (addresses pages) (c.if-not-is_once.ensures.ascending refl);
          once_origins = once_ascending (origins sets) (c.if-not-is_once_asked.ensures.ascending refl);
          stand = All-permutation (StandsPage c.args.frontier.now.state) _ _ c.order_and_ascend-is_once.ensures.permutation told;
          stand_rules = All-permutation (StandsRules c.args.frontier.now.state) _ _ c.order_and_ascend-is_once_asked.ensures.permutation ruled;
          recorded = rw c.deref-3.ensures.value at (c.if-not-all_are_noted.ensures.noted refl);
          ruled = rw c.deref-4.ensures.value at (c.known_rules_are_noted.ensures.noted so);
        }),
        λ agrees. c.known_rules_are_noted.ensures.missing (rw c.deref-4.ensures.value (c.if-not-is_once_asked.ensures.ascending refl)) (rw c.deref-4.ensures.value agrees.ruled),
      );
    }

pub returns-then-not-is_once : goal.returns-then-not-is_once
returns-then-not-is_once g c = record {
  pages = c.order_and_ascend-is_once.ensures.permutation;
  rules = c.order_and_ascend-is_once_asked.ensures.permutation;
  order = λ so. absurd (false≢true so);
  agrees = ((λ so. absurd (false≢true so)), λ agrees. c.if-not-is_once.ensures.once.1 agrees.once);
}

pub returns-then-not-is_once_asked : goal.returns-then-not-is_once_asked
returns-then-not-is_once_asked g c = record {
  pages = c.order_and_ascend-is_once.ensures.permutation;
  rules = c.order_and_ascend-is_once_asked.ensures.permutation;
  order = λ so. absurd (false≢true so);
  agrees = ((λ so. absurd (false≢true so)), λ agrees. c.if-not-is_once_asked.ensures.once.1 agrees.once_origins);
}

pub returns-then-not-pages_stand : goal.returns-then-not-pages_stand
returns-then-not-pages_stand g c = record {
  pages = IsPermutation-refl _;
  rules = IsPermutation-refl _;
  order = λ so. absurd (false≢true so);
  agrees = ((λ so. absurd (false≢true so)), λ agrees. c.if-not-pages_stand.ensures.1 (rw c.deref.ensures.value agrees.stand));
}

pub returns-then-not-all_rules_stand : goal.returns-then-not-all_rules_stand
returns-then-not-all_rules_stand g c = record {
  pages = IsPermutation-refl _;
  rules = IsPermutation-refl _;
  order = λ so. absurd (false≢true so);
  agrees = ((λ so. absurd (false≢true so)), λ agrees. c.if-not-all_rules_stand.ensures.1 (rw c.deref-2.ensures.value agrees.stand_rules));
}

pub returns-then-not-all_are_noted : goal.returns-then-not-all_are_noted
returns-then-not-all_are_noted g c = record {
  pages = c.order_and_ascend-is_once.ensures.permutation;
  rules = c.order_and_ascend-is_once_asked.ensures.permutation;
  order = λ so. absurd (false≢true so);
  agrees = ((λ so. absurd (false≢true so)), λ agrees. c.if-not-all_are_noted.ensures.missing (rw c.deref-3.ensures.value (c.if-not-is_once.ensures.ascending refl)) (rw c.deref-3.ensures.value agrees.recorded));
}
