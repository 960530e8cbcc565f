use Rattle.std.proofs.Common.{◌≡◌, ◌≢◌, ◌⊎◌, ◌<◌, ◌≤◌, ◌-◌, get_or, take, drop, length, length-drop, arith, rules}
use Rattle.std.proofs.lemmas.List.{take_all}
use Rattle.follow_filters.proofs.ClassLemmas.{bracketed_class-negated, bracketed_class-plain}
use Rattle.follow_filters.proofs.class.split_negation.Goals as goal

pub returns-in-33 : goal.returns-in-33
returns-in-33 c =
    let inner = c.args.inner.now in
    let bang : get_or inner 0 0 ≡ 33 = search rules in
    let some : 1 ≤ length inner = search rules in
    let behind : take (length inner - 1) (drop 1 inner) ≡ drop 1 inner = take_all (length inner - 1) (drop 1 inner) (omega (arith, length-drop 1 inner)) in
    rw behind (bracketed_class-negated inner some bang)

pub returns-in_default : goal.returns-in_default
returns-in_default c =
    let inner = c.args.inner.now in
    let other : (length inner < 1) ⊎ (get_or inner 0 0 ≢ 33) = search rules in
    bracketed_class-plain inner other
