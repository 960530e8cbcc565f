use Rattle.std.proofs.Common.{◌≡◌, ◌∙◌, false, slice_index_or, slice_set, sym, ap, subst, arith}
use Rattle.std.proofs.lemmas.List.{length-set}
use Rattle.std.proofs.lemmas.List.Edits.{fill_by_more}
use Rattle.std.proofs.lemmas.List.FromFn.{fill_by_all}
use Rattle.html_links.specs.Rules.{takes_row}
use Rattle.html_links.proofs.Listing.{row_at, row_named, all_rows}
use Rattle.html_links.proofs.lists.takes_rows.Goals as goal

pub loop-place-preserved : goal.loop-place-preserved
loop-place-preserved c =
    let taken = c.loop-place.taken in
    let place = c.loop-place.place in
    let takes = takes_row c.args.followed.now c.args.ignored.now in
    let value : c.takes_row.result ≡ takes (row_at place) =
    c.takes_row.ensures ∙ ap takes (row_named c.table-rows.result.now place _ c.table-rows.ensures (omega arith)) in (
      length-set taken place c.takes_row.result ∙ c.loop-place.invariant.0,
      λ k below. subst (λ v. slice_index_or (slice_set taken place v) k false ≡ takes (row_at k)) (sym value)
          (fill_by_more (λ j. takes (row_at j)) taken place false (omega (arith, c.loop-place.invariant.0)) c.loop-place.invariant.1 k below),
    )

pub returns : goal.returns
returns c =
    let takes = takes_row c.args.followed.now c.args.ignored.now in
    fill_by_all (λ k. takes (row_at k)) c.loop-place.taken 45 false c.loop-place.invariant.0 (λ k below. c.loop-place.invariant.1 k (omega (arith, c.loop-place-test.false)))
    ∙ all_rows takes
