use Rattle.std.proofs.Common.{◌+◌, Some}
use Rattle.std.proofs.lemmas.Map.Text.{btree_map_updates_text}
use Rattle.std.specs.BTreeMap.{get_by_text}
use Rattle.std.specs.String.{string_bytes}
use Rattle.local_names.proofs.NamingLaws.{remembered_one, remembered_both}
use Rattle.local_names.proofs.naming.remember.Goals as goal

pub returns-in_ok-insert-2 : goal.returns-in_ok-insert-2
returns-in_ok-insert-2 c =
    let key = string_bytes c.in_ok-from_str.field-0 in
    let second = string_bytes c.in_ok-from_str-2.field-0 in
    let mid = c.insert.new.self in
    let new = c.insert-then-number-gt0.new.self in
    λ q. remembered_both (get_by_text c.args.next.now) (get_by_text mid) (get_by_text new) c.args.own.now c.args.name.now key second c.args.number q
    c.in_ok-from_str.ensures.ok c.in_ok-from_str-2.ensures.ok c.if-number-gt0.true
    (btree_map_updates_text key c.args.next.now mid (Some 1) c.in_ok-insert.ensures.updates q)
    (btree_map_updates_text second mid new (Some (c.args.number + 1)) c.in_ok-insert-2.ensures.updates q)

pub returns-else-number-gt0 : goal.returns-else-number-gt0
returns-else-number-gt0 c =
    let key = string_bytes c.in_ok-from_str.field-0 in
    λ q. remembered_one (get_by_text c.args.next.now) (get_by_text c.insert.new.self) c.args.own.now c.args.name.now key c.args.number q c.in_ok-from_str.ensures.ok c.if-number-gt0.false
    (btree_map_updates_text key c.args.next.now c.insert.new.self (Some 1) c.in_ok-insert.ensures.updates q)
