use Rattle.std.proofs.Common.{◌+◌, ◌-◌, ◌≤◌, ◌<◌, ◌++◌, map, drop, get_or, length, append_assoc, append-nil, refl, sym, ap, ◌∙◌, arith}
use Rattle.std.proofs.lemmas.List.{drop_more, drop_all}
use Rattle.std.specs.String.{string_bytes}
use Rattle.local_names.specs.PlainNames.{cut}
use Rattle.local_names.specs.declared.unit.Unit.TheVariants.{Char}
use Rattle.local_names.specs.inner.Units.{unit_text}
use Rattle.local_names.proofs.UnitLaws.{cut_at_no_more, cut_at_room}
use Rattle.local_names.proofs.unit.push_cut.Goals as goal

pub loop-unit-init : goal.loop-unit-init
loop-unit-init c = refl

pub loop-unit-preserved : goal.loop-unit-preserved
loop-unit-preserved c =
    let units = c.args.units.now in
    let i = c.loop-unit.unit-index in
    let text = unit_text (get_or units i (Char 0)) in
    let room = c.loop-unit.room in
    let name = string_bytes c.loop-unit.name in
    let rest = map unit_text (drop (i + 1) units) in
    let size = c.len-len.ensures in
    let room_left = c.if-len-room.false in
    let fits : length text ≤ room = omega (arith, size, room_left) in
    ap (λ n. string_bytes c.push_onto.new.name ++ cut (room - n) rest) size
    ∙ ap (λ xs. xs ++ cut (room - length text) rest) c.in_ok-push_onto.ensures
    ∙ append_assoc name text (cut (room - length text) rest)
    ∙ ap (λ xs. name ++ xs) (sym (cut_at_room room text rest fits))
    ∙ ap (λ us. name ++ cut room (map unit_text us)) (sym (drop_more units i (Char 0) c.loop-unit-test.true))
    ∙ c.loop-unit.invariant

pub returns-then-len-room : goal.returns-then-len-room
returns-then-len-room c =
    let units = c.args.units.now in
    let i = c.loop-unit.unit-index in
    let text = unit_text (get_or units i (Char 0)) in
    let room = c.loop-unit.room in
    let name = string_bytes c.loop-unit.name in
    let rest = map unit_text (drop (i + 1) units) in
    let size = c.len-len.ensures in
    let room_left = c.if-len-room.true in
    let less : room < length text = omega (arith, size, room_left) in
    sym (append-nil name)
    ∙ ap (λ xs. name ++ xs) (sym (cut_at_no_more room text rest less))
    ∙ ap (λ us. name ++ cut room (map unit_text us)) (sym (drop_more units i (Char 0) c.loop-unit-test.true))
    ∙ c.loop-unit.invariant

pub returns : goal.returns
returns c =
    let name = string_bytes c.loop-unit.name in
    sym (append-nil name)
    ∙ ap (λ us. name ++ cut c.loop-unit.room (map unit_text us)) (sym (drop_all c.loop-unit.unit-index c.args.units.now c.loop-unit-test.false))
    ∙ c.loop-unit.invariant
