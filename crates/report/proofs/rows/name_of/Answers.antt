-- What the search finds is the place of the page's name.
use Rattle.std.proofs.Common.{◌≡◌, List, [], ℕ, length, map, Option, Some, Ok, Err, sym, ap, ◌∙◌, arith}
use Rattle.std.proofs.lemmas.List.{length-map, get_or-map}
use Rattle.std.specs.String.{string_bytes}
use Rattle.report.proofs.NameLaws.{name_at, name_found}
use Rattle.report.proofs.rows.name_of.Goals as goal

pub returns-then-stands_at : goal.returns-then-stands_at
returns-then-stands_at c =
    let names = c.args.names.now in
    let long : length (map string_bytes names) ≡ length c.args.kept.now = length-map names string_bytes ∙ c.requires.count in
    let here = c.stands_at.ensures c.if-stands_at.true in
    let found = name_at c.args.kept.now (map string_bytes names) c.args.near c.args.page.now c.requires.ascending long here.0 here.1 in
    ap (λ (name : List ℕ). Some name) (c.as_str.ensures.value ∙ ap string_bytes c.index-names-near.is ∙ sym (get_or-map string_bytes names c.args.near c.index-names-near.result [] (omega (arith, here.0, c.requires.count))))
    ∙ sym found

pub returns-in-Ok : goal.returns-in-Ok
returns-in-Ok c =
    let names = c.args.names.now in
    let long : length (map string_bytes names) ≡ length c.args.kept.now = length-map names string_bytes ∙ c.requires.count in
    let found = name_found c.args.kept.now (map string_bytes names) c.args.page.now (Ok c.in-Ok.place) c.requires.ascending long c.in-Ok.ensures.bound c.in-Ok.ensures.position in
    ap (λ (name : List ℕ). Some name) (c.as_str-in-Ok.ensures.value ∙ ap string_bytes c.index-names-place.is ∙ sym (get_or-map string_bytes names c.in-Ok.place c.index-names-place.result [] (omega (arith, c.in-Ok.ensures.bound, c.requires.count))))
    ∙ sym found

pub returns-in-Err : goal.returns-in-Err
returns-in-Err c =
    let names = c.args.names.now in
    let long : length (map string_bytes names) ≡ length c.args.kept.now = length-map names string_bytes ∙ c.requires.count in
    sym (name_found c.args.kept.now (map string_bytes names) c.args.page.now (Err c.in-Err.field-0) c.requires.ascending long c.in-Err.ensures.bound c.in-Err.ensures.position)
