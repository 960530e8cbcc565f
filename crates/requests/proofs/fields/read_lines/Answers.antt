-- Each line that isn't empty says a field more, or none.
use Rattle.std.proofs.Common.{◌≡◌, ◌∙◌, ◌<◌, [], ◌∷◌, length, Some, inl, inr, ⊎_elim, sym, ap, rules}
use Rattle.std.specs.List.{slice_split}
use Rattle.requests.specs.Fields.{is_nul, read_lines}
use Rattle.requests.proofs.LineLemmas.{behind, lines-bad, lines-empty, lines-end, lines-last, lines-more, some_cut}
use Rattle.requests.proofs.fields.read_lines.Goals as goal
use Rattle.requests.proofs.fields.read_lines.Goals.{then-not-is_empty+in-Ok+in_ok-push-in-Ok, else-not-is_empty}

pub loop-first-preserved : goal.loop-first-preserved
loop-first-preserved c =
    let rest = c.loop-first.rest.now in
    let first = c.split_lines.result.0.now in
    let later = c.in-Some.behind.now in
    let both = rw c.in-Some.is at c.split_lines.ensures in
    let cut : slice_split is_nul rest ≡ first ∷ slice_split is_nul later = both.0 in
    let read : behind c.if-not-is_empty.fields.items (read_lines later) ≡ behind c.loop-first.fields.items (read_lines rest) =
    elim c.if-not-is_empty.branch [
      | then-not-is_empty+in-Ok+in_ok-push-in-Ok w ↦
          ap (λ v. behind v.items (read_lines later)) w.fields-is
          ∙ ap (λ xs. behind xs (read_lines later)) w.in_ok-push-in-Ok.ensures.items
          ∙ lines-more c.loop-first.fields.items rest first later _ cut (sym c.is_empty.ensures ∙ w.if-not-is_empty.true) w.in-Ok.ensures
      | else-not-is_empty w ↦
          ap (λ v. behind v.items (read_lines later)) w.fields-is
          ∙ ap (behind c.loop-first.fields.items) (lines-empty rest first later cut (sym c.is_empty.ensures ∙ w.if-not-is_empty.false))
    ] in
    (search rules, read ∙ c.loop-first.invariant.1)

pub returns-in-Err : goal.returns-in-Err
returns-in-Err c =
    let rest = c.loop-first.rest.now in
    let first = c.split_lines.result.0.now in
    let cut = some_cut (slice_split is_nul rest) first (λ r. length r < length rest) c.split_lines.result.1 c.split_lines.ensures in
    ⊎_elim
    (λ bad. inl (
      bad.0,
      sym c.loop-first.invariant.1
          ∙ ap (behind c.loop-first.fields.items) (lines-bad rest first cut.0 cut.1 (sym c.is_empty.ensures ∙ c.if-not-is_empty.true) bad.1),
    ))
    (λ memory. inr memory)
    c.in-Err.ensures

pub returns-in-None : goal.returns-in-None
returns-in-None c =
    let rest = c.loop-first.rest.now in
    let first = c.split_lines.result.0.now in
    let cut : slice_split is_nul rest ≡ first ∷ [] = rw c.in-None.is at c.split_lines.ensures in
    let read : behind c.loop-first.fields.items (read_lines rest) ≡ Some c.if-not-is_empty.fields.items =
    elim c.if-not-is_empty.branch [
      | then-not-is_empty+in-Ok+in_ok-push-in-Ok w ↦
          lines-last c.loop-first.fields.items rest first _ cut (sym c.is_empty.ensures ∙ w.if-not-is_empty.true) w.in-Ok.ensures
          ∙ ap Some (sym w.in_ok-push-in-Ok.ensures.items)
          ∙ ap (λ v. Some v.items) (sym w.fields-is)
      | else-not-is_empty w ↦
          lines-end c.loop-first.fields.items rest first cut (sym c.is_empty.ensures ∙ w.if-not-is_empty.false)
          ∙ ap (λ v. Some v.items) (sym w.fields-is)
    ] in
    sym c.loop-first.invariant.1 ∙ read
