-- What a hint or the search finds is the place of the page's name.
use Rattle.std.proofs.Common.{◌≡◌, List, [], ℕ, length, map, Some, Ok, Err, sym, ap, ◌∙◌, arith}
use Rattle.std.proofs.lemmas.List.{length-map, get_or-map}
use Rattle.std.specs.String.{string_bytes}
use Rattle.run_mirror.proofs.NameLaws.{name_at, name_found}
use Rattle.run_mirror.proofs.lookup.name_of.Goals as goal

pub returns-in-Ok : goal.returns-in-Ok
returns-in-Ok c =
    let names = c.args.names.now in
    let long : length (map string_bytes names) ≡ length c.args.kept.now = length-map names string_bytes ∙ c.requires.count in
    let found = name_found c.args.kept.now (map string_bytes names) c.args.page.now (Ok c.in-Ok.place) c.requires.ascending long c.in-Ok.ensures.bound c.in-Ok.ensures.position in
    ap (λ (name : List ℕ). Some name) (c.as_str-in-Ok.ensures.value ∙ ap string_bytes c.index-names-place-in-Ok.is ∙ sym (get_or-map string_bytes names c.in-Ok.place c.index-names-place-in-Ok.result [] (omega (arith, c.in-Ok.ensures.bound, c.requires.count))))
    ∙ sym found

pub returns-in-Err : goal.returns-in-Err
returns-in-Err c =
    let names = c.args.names.now in
    let long : length (map string_bytes names) ≡ length c.args.kept.now = length-map names string_bytes ∙ c.requires.count in
    sym (name_found c.args.kept.now (map string_bytes names) c.args.page.now (Err c.in-Err.field-0) c.requires.ascending long c.in-Err.ensures.bound c.in-Err.ensures.position)

pub returns-in-Some : goal.returns-in-Some
returns-in-Some c =
    let names = c.args.names.now in
    let long : length (map string_bytes names) ≡ length c.args.kept.now = length-map names string_bytes ∙ c.requires.count in
    let found = name_at c.args.kept.now (map string_bytes names) c.in-Some.place c.args.page.now c.requires.ascending long c.in-Some.ensures.place c.in-Some.ensures.page in
    ap (λ (name : List ℕ). Some name) (c.as_str.ensures.value ∙ ap string_bytes c.index-names-place.is ∙ sym (get_or-map string_bytes names c.in-Some.place c.index-names-place.result [] (omega (arith, c.in-Some.ensures.place, c.requires.count))))
    ∙ sym found
