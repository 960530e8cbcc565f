use Rattle.std.proofs.Common.{rules, arith, ◌≡◌, ◌<◌, ◌∷◌, ap, length, refl}
use Rattle.std.proofs.lemmas.Bool.{false≢true}
use Rattle.workers.proofs.ApartLaws.{order_first, ordered_none, ordered_first}
use Rattle.workers.proofs.once.+sort_all.Goals as goal

pub returns-in_default-clause-ordered : goal.returns-in_default-clause-ordered
returns-in_default-clause-ordered g t c = ordered_none c.args.seats.now c.in_default.ensures.cases

pub returns-in_default-clause-order : goal.returns-in_default-clause-order
returns-in_default-clause-order g t c so k d lt = absurd (omega (arith, lt, c.in_default.ensures.cases))

pub sort_all-are_others_once-requires : goal.sort_all-are_others_once-requires
sort_all-are_others_once-requires g t c κs within =
    let all : c.in-Some.seat.now ∷ c.in-Some.others.now ≡ c.args.seats.now = search rules in
    let falls : length c.in-Some.others.now < t = omega (arith, ap length all, c.decreases) in
    (falls, within)

pub returns-then-not-is_seat_once-clause-ordered : goal.returns-then-not-is_seat_once-clause-ordered
returns-then-not-is_seat_once-clause-ordered g t c =
    let all : c.in-Some.seat.now ∷ c.in-Some.others.now ≡ c.args.seats.now = search rules in
    ordered_first c.in-Some.seat.now _ c.in-Some.others.now _ c.args.seats.now all c.sort_seat-is_seat_once.ensures.ordered c.sort_all-are_others_once.ensures.ordered

pub returns-then-not-is_seat_once-clause-order : goal.returns-then-not-is_seat_once-clause-order
returns-then-not-is_seat_once-clause-order g t c so = absurd (false≢true so)

pub returns-clause-ordered : goal.returns-clause-ordered
returns-clause-ordered g t c =
    let all : c.in-Some.seat.now ∷ c.in-Some.others.now ≡ c.args.seats.now = search rules in
    ordered_first c.in-Some.seat.now _ c.in-Some.others.now _ c.args.seats.now all c.sort_seat-is_seat_once.ensures.ordered c.sort_all-are_others_once.ensures.ordered

pub returns-clause-order : goal.returns-clause-order
returns-clause-order g t c so =
    order_first c.sort_seat-is_seat_once.new.seat c.sort_all-are_others_once.new.seats (c.if-not-is_seat_once.ensures.order refl) (c.sort_all-are_others_once.ensures.order so)
