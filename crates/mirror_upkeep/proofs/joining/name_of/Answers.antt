-- The place of the address, if it has one.
use Rattle.std.proofs.Common.{◌≡◌, ◌∙◌, ◌≤◌, ◌<◌, false, Err, Global, arith, length, map, sym, ap, get_or}
use Rattle.std.proofs.lemmas.List.{get_or-map, length-map}
use Rattle.std.proofs.lemmas.Map.Lookups.{exact_bytes}
use Rattle.std.specs.String.{string_bytes}
use Rattle.mirror_upkeep.specs.Names.{has_name}
use Rattle.mirror_upkeep.proofs.NameLaws.{ascending_found, name_none, name_past, name_there}
use Rattle.mirror_upkeep.proofs.joining.name_of.Goals as goal

pub returns-in_default : goal.returns-in_default
returns-in_default c =
    let kept = c.args.kept.now in
    let none : false ≡ has_name kept c.args.at.now = ascending_found kept c.args.at.now (Err c.in_default.field-0) c.requires c.in_default.ensures.bound c.in_default.ensures.position in
    sym (name_none kept (map string_bytes c.args.names.now) c.args.at.now (sym none))

pub returns-then-place-names : goal.returns-then-place-names
returns-then-place-names c =
    let kept = c.args.kept.now in
    let at = c.args.at.now in
    let is : get_or kept c.in-Ok.place at ≡ at = exact_bytes (get_or kept c.in-Ok.place at) at (c.in-Ok.ensures.ok at) in
    let long = length-map c.args.names.now (string_bytes {Z = Global}) in
    let past : length c.args.names.now ≤ c.in-Ok.place = c.if-place-names.true in
    sym (name_past kept (map string_bytes c.args.names.now) at c.in-Ok.place c.requires c.in-Ok.ensures.bound is (omega arith))

pub returns : goal.returns
returns c =
    let kept = c.args.kept.now in
    let at = c.args.at.now in
    let names = c.args.names.now in
    let name = c.index-names-place.result in
    let is : get_or kept c.in-Ok.place at ≡ at = exact_bytes (get_or kept c.in-Ok.place at) at (c.in-Ok.ensures.ok at) in
    let long = length-map names (string_bytes {Z = Global}) in
    let within : c.in-Ok.place < length names = c.if-place-names.false in
    let named = ap (string_bytes {Z = Global}) c.index-names-place.is ∙ sym (get_or-map (string_bytes {Z = Global}) names c.in-Ok.place name (string_bytes name) within) in
    sym (name_there kept (map string_bytes names) at (string_bytes name) c.in-Ok.place c.requires c.in-Ok.ensures.bound is (omega arith) named)
