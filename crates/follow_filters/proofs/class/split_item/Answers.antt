use Rattle.std.proofs.Common.{◌≡◌, ◌≢◌, ◌⊎◌, ◌<◌, ◌≤◌, ◌-◌, get_or, take, drop, length, length-drop, arith, rules}
use Rattle.std.proofs.lemmas.List.{take_all}
use Rattle.follow_filters.proofs.ClassLemmas.{ranges_of-span, ranges_of-one}
use Rattle.follow_filters.proofs.class.split_item.Goals as goal

pub returns-in-45 : goal.returns-in-45
returns-in-45 c =
    let items = c.args.items.now in
    let dash : get_or items 1 0 ≡ 45 = search rules in
    let behind : take (length items - 3) (drop 3 items) ≡ drop 3 items = take_all (length items - 3) (drop 3 items) (omega (arith, length-drop 3 items)) in
    rw behind (ranges_of-span items c.in-45.len_at_least dash, omega (arith, length-drop 3 items, c.in-45.len_at_least))

pub returns-in-len1-up : goal.returns-in-len1-up
returns-in-len1-up c =
    let items = c.args.items.now in
    let some : 1 ≤ length items = search rules in
    let other : (length items < 3) ⊎ (get_or items 1 0 ≢ 45) = search rules in
    let behind : take (length items - 1) (drop 1 items) ≡ drop 1 items = take_all (length items - 1) (drop 1 items) (omega (arith, length-drop 1 items)) in
    rw behind (ranges_of-one items some other, omega (arith, length-drop 1 items))
