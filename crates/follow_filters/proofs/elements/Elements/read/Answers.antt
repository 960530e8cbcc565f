use Rattle.std.proofs.Common.{◌≡◌, ◌∙◌, ◌<◌, [], ◌∷◌, length, Some, inl, inr, ⊎_elim, sym, ap, rules}
use Rattle.std.specs.List.{slice_split}
use Rattle.follow_filters.specs.Lists.{is_comma, read_list}
use Rattle.follow_filters.specs.Elements.{IsFaultOf}
use Rattle.follow_filters.proofs.ClassLemmas.{behind}
use Rattle.follow_filters.proofs.ListLemmas.{elements_in-more, elements_in-empty, elements_in-bad, elements_in-last, elements_in-end, some_cut}
use Rattle.follow_filters.proofs.elements.Elements.read.Goals as goal
use Rattle.follow_filters.proofs.elements.Elements.read.Goals.{then-not-is_empty+in-Ok+in_ok-push-in-Ok, else-not-is_empty}

pub loop-first-preserved : goal.loop-first-preserved
loop-first-preserved g c =
    let rest = c.loop-first.rest.now in
    let first = c.split_list.result.0.now in
    let later = c.in-Some.behind.now in
    let both = rw c.in-Some.is at c.split_list.ensures in
    let cut : slice_split is_comma rest ≡ first ∷ slice_split is_comma later = both.0 in
    let read : behind c.if-not-is_empty.items.items (read_list g.T.Element.read_of later) ≡ behind c.loop-first.items.items (read_list g.T.Element.read_of rest) =
    elim c.if-not-is_empty.branch [
      | then-not-is_empty+in-Ok+in_ok-push-in-Ok w ↦
          ap (λ v. behind v.items (read_list g.T.Element.read_of later)) w.items-is
          ∙ ap (λ xs. behind xs (read_list g.T.Element.read_of later)) w.in_ok-push-in-Ok.ensures.items
          ∙ elements_in-more g.T.Element.read_of c.loop-first.items.items rest first later _ cut (sym c.is_empty.ensures ∙ w.if-not-is_empty.true) w.in-Ok.ensures
      | else-not-is_empty w ↦
          ap (λ v. behind v.items (read_list g.T.Element.read_of later)) w.items-is
          ∙ ap (behind c.loop-first.items.items) (elements_in-empty g.T.Element.read_of rest first later cut (sym c.is_empty.ensures ∙ w.if-not-is_empty.false))
    ] in
    (search rules, read ∙ c.loop-first.invariant.1)

pub returns-in-Err : goal.returns-in-Err
returns-in-Err g c =
    let rest = c.loop-first.rest.now in
    let first = c.split_list.result.0.now in
    let cut = some_cut (slice_split is_comma rest) first (λ r. length r < length rest) c.split_list.result.1 c.split_list.ensures in
    let fault : IsFaultOf (g.T.Element.read_of first) c.in-Err.fault = c.in-Err.ensures in
    ⊎_elim
    (λ bad. inl (
      bad.0,
      sym c.loop-first.invariant.1
          ∙ ap (behind c.loop-first.items.items) (elements_in-bad g.T.Element.read_of rest first cut.0 cut.1 (sym c.is_empty.ensures ∙ c.if-not-is_empty.true) bad.1),
    ))
    (λ memory. inr memory)
    fault

pub returns-in-None : goal.returns-in-None
returns-in-None g c =
    let rest = c.loop-first.rest.now in
    let first = c.split_list.result.0.now in
    let cut : slice_split is_comma rest ≡ first ∷ [] = rw c.in-None.is at c.split_list.ensures in
    let read : behind c.loop-first.items.items (read_list g.T.Element.read_of rest) ≡ Some c.if-not-is_empty.items.items =
    elim c.if-not-is_empty.branch [
      | then-not-is_empty+in-Ok+in_ok-push-in-Ok w ↦
          elements_in-last g.T.Element.read_of c.loop-first.items.items rest first _ cut (sym c.is_empty.ensures ∙ w.if-not-is_empty.true) w.in-Ok.ensures
          ∙ ap Some (sym w.in_ok-push-in-Ok.ensures.items)
          ∙ ap (λ v. Some v.items) (sym w.items-is)
      | else-not-is_empty w ↦
          elements_in-end g.T.Element.read_of c.loop-first.items.items rest first cut (sym c.is_empty.ensures ∙ w.if-not-is_empty.false)
          ∙ ap (λ v. Some v.items) (sym w.items-is)
    ] in
    sym c.loop-first.invariant.1 ∙ read ∙ ap Some (sym c.of.ensures)
