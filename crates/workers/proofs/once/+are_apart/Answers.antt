use Rattle.std.proofs.Common.{rules, arith, ◌≡◌, ◌∷◌, ap, length, refl}
use Rattle.std.proofs.lemmas.Bool.{false≢true}
use Rattle.workers.proofs.ApartLaws.{rest_order, pages_once_none, rules_once_none, pages_once_first, rules_once_first}
use Rattle.workers.proofs.once.+are_apart.Goals as goal

pub returns-in_default-clause-pages : goal.returns-in_default-clause-pages
returns-in_default-clause-pages g t c so = pages_once_none c.args.seats.now c.in_default.ensures.cases

pub returns-in_default-clause-rules : goal.returns-in_default-clause-rules
returns-in_default-clause-rules g t c so = rules_once_none c.args.seats.now c.in_default.ensures.cases

pub is_apart-requires : goal.is_apart-requires
is_apart-requires g t c =
    let all : c.in-Some.seat.now ∷ c.in-Some.others.now ≡ c.args.seats.now = search rules in
    rest_order c.in-Some.seat.now c.in-Some.others.now c.args.seats.now all c.requires

pub returns-then-not-is_apart-clause-pages : goal.returns-then-not-is_apart-clause-pages
returns-then-not-is_apart-clause-pages g t c so = absurd (false≢true so)

pub returns-then-not-is_apart-clause-rules : goal.returns-then-not-is_apart-clause-rules
returns-then-not-is_apart-clause-rules g t c so = absurd (false≢true so)

pub are_apart-requires : goal.are_apart-requires
are_apart-requires g t c κs within =
    let all : c.in-Some.seat.now ∷ c.in-Some.others.now ≡ c.args.seats.now = search rules in
    (omega (arith, ap length all, c.decreases), (within.0, (within.1, rest_order c.in-Some.seat.now c.in-Some.others.now c.args.seats.now all c.requires)))

pub returns-clause-pages : goal.returns-clause-pages
returns-clause-pages g t c so =
    let all : c.in-Some.seat.now ∷ c.in-Some.others.now ≡ c.args.seats.now = search rules in
    pages_once_first c.in-Some.seat.now c.in-Some.others.now c.args.seats.now all c.requires (c.are_apart.ensures.pages so) (c.if-not-is_apart.ensures.pages refl)

pub returns-clause-rules : goal.returns-clause-rules
returns-clause-rules g t c so =
    let all : c.in-Some.seat.now ∷ c.in-Some.others.now ≡ c.args.seats.now = search rules in
    rules_once_first c.in-Some.seat.now c.in-Some.others.now c.args.seats.now all c.requires (c.are_apart.ensures.rules so) (c.if-not-is_apart.ensures.rules refl)
