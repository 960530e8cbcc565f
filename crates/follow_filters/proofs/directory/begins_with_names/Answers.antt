use Rattle.std.proofs.Common.{◌≡◌, ◌∙◌, ◌+◌, [], ◌∷◌, drop, sym, ap}
use Rattle.std.proofs.Math.ListN.{drop_of_length-le}
use Rattle.std.proofs.lemmas.List.{drop_more}
use Rattle.follow_filters.specs.Directories.{begins_with_names, names_in}
use Rattle.follow_filters.proofs.DirectoryLemmas.{begins-last, some_names}
use Rattle.follow_filters.proofs.directory.begins_with_names.Goals as goal

pub returns-in_default : goal.returns-in_default
returns-in_default c =
    let ignores_case = c.args.ignores_case in
    let names = c.args.names.now in
    let i = c.loop-name.name-index in
    let item = c.name-item.result in
    let rest = c.loop-name.rest.now in
    let first = c.split_name.result.0.now in
    let cut : names_in rest ≡ first ∷ [] = rw c.in_default.is at c.split_name.ensures in
    let here : drop i names ≡ item ∷ drop (i + 1) names = drop_more names i item c.loop-name-test.true ∙ ap (λ x. x ∷ drop (i + 1) names) (sym c.name-item.is) in
    sym (sym c.loop-name.invariant.1
    ∙ ap (λ ns. begins_with_names ignores_case ns (names_in rest)) here
    ∙ ap (begins_with_names ignores_case (item ∷ drop (i + 1) names)) cut
    ∙ begins-last ignores_case item (drop (i + 1) names) first)

pub returns : goal.returns
returns c =
    let rest = c.loop-name.rest.now in
    sym (sym c.loop-name.invariant.1
    ∙ ap (λ ns. begins_with_names c.args.ignores_case ns (names_in rest)) (drop_of_length-le c.args.names.now c.loop-name-test.false)
    ∙ some_names c.args.ignores_case rest)
