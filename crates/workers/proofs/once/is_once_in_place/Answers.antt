use Rattle.std.proofs.Common.{refl}
use Rattle.std.proofs.lemmas.Bool.{false≢true}
use Rattle.workers.proofs.ApartLaws.{pages_once_before, rules_once_before}
use Rattle.workers.proofs.once.is_once_in_place.Goals as goal

pub are_apart-requires : goal.are_apart-requires
are_apart-requires g c = c.if-not-sort_all.ensures.order refl

pub returns-then-not-sort_all : goal.returns-then-not-sort_all
returns-then-not-sort_all g c = record {
  ordered = c.sort_all.ensures.ordered;
  pages = λ so. absurd (false≢true so);
  rules = λ so. absurd (false≢true so);
}

pub returns : goal.returns
returns g c = record {
  ordered = c.sort_all.ensures.ordered;
  pages = λ so. pages_once_before _ _ c.sort_all.ensures.ordered (c.are_apart.ensures.pages so);
  rules = λ so. rules_once_before _ _ c.sort_all.ensures.ordered (c.are_apart.ensures.rules so);
}
