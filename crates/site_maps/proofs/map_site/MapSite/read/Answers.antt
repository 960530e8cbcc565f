-- The lines that the loop sees are those of the text.
use Rattle.std.proofs.Common.{◌≡◌, ◌==◌, ◌∙◌, ◌++◌, ◌∷◌, [], Some, inr, length, sym, ap, rules, tests, arith}
use Rattle.std.specs.List.{slice_get}
use Rattle.std.proofs.lemmas.Iterator.Consumers.{YieldsList-at, YieldsList-so_far, YieldsList-turn, YieldsList-end}
use Rattle.std.proofs.lemmas.Iterator.Splits.{YieldsList-from_slice_split}
use Rattle.std.proofs.lemmas.List.{map-append, length-append}
use Rattle.std.proofs.lemmas.List.Splits.{length-slice_split}
use Rattle.std.proofs.lemmas.List.Sums.{count_by-le-length}
use Rattle.std.proofs.lemmas.Option.{slice_get-get_or}
use Rattle.std.proofs.lemmas.Result.{err_from_is_err_and}
use Rattle.site_maps.specs.Maps.{text_lines_of}
use Rattle.site_maps.proofs.MapReads.{map_push, first_bad}
use Rattle.site_maps.proofs.ReadingLaws.{fresh_of}
use Rattle.site_maps.proofs.map_site.MapSite.read.Goals as goal

pub overflow_add-number : goal.overflow_add-number
overflow_add-number c =
    let turn = YieldsList-turn (YieldsList-at c.into_iter-line-iterator.ensures.into_iter_gives
    (YieldsList-from_slice_split _ (λ b. b == 10) c.args.text.now c.split-line-items.ensures.rest c.split-line-items.ensures.done c.split-line-items.ensures.closure
    (λ x b q k. search (rules, tests)))) c.loop-line.yielded _ c.loop-line.yielded_by _ _ c.in-Some.line c.in-Some.is c.next.ensures.steps in
    let (_, _, count, _) = c.loop-line.invariant in
    let number = length-slice_split (λ b. b == 10) c.args.text.now in
    let below = count_by-le-length (λ b. b == 10) c.args.text.now in
    omega (arith, turn.0, count, number, below)

pub returns-in-Err-clause-fault : goal.returns-in-Err-clause-fault
returns-in-Err-clause-fault c =
    let turn = YieldsList-turn (YieldsList-at c.into_iter-line-iterator.ensures.into_iter_gives
    (YieldsList-from_slice_split _ (λ b. b == 10) c.args.text.now c.split-line-items.ensures.rest c.split-line-items.ensures.done c.split-line-items.ensures.closure
    (λ x b q k. search (rules, tests)))) c.loop-line.yielded _ c.loop-line.yielded_by _ _ c.in-Some.line c.in-Some.is c.next.ensures.steps in
    let seen = YieldsList-so_far (YieldsList-at c.into_iter-line-iterator.ensures.into_iter_gives
    (YieldsList-from_slice_split _ (λ b. b == 10) c.args.text.now c.split-line-items.ensures.rest c.split-line-items.ensures.done c.split-line-items.ensures.closure
    (λ x b q k. search (rules, tests)))) c.loop-line.yielded _ c.loop-line.yielded_by in
    let (_, _, count, told) = c.loop-line.invariant in
    let (above, m, t) = told in
    let lines = text_lines_of c.args.text.now in
    let k = length c.loop-line.yielded in
    let line = c.in-Some.line.now in
    let at : slice_get lines k ≡ Some line = slice_get-get_or lines k line turn.0 ∙ ap Some (sym turn.1) in
    rw (c.at.ensures, count) (first_bad c.args.text.now k line above c.in-Err.fault at (rw seen at m) (c.in-Err.ensures above t))

pub loop-line-preserved : goal.loop-line-preserved
loop-line-preserved c =
    let (_, _, count, told) = c.loop-line.invariant in
    let (above, m, t) = told in
    let (s, form, good, tells) = c.in_default.ensures above t in
    let longer = length-append c.loop-line.yielded (c.in-Some.line ∷ []) in
    (search rules, search rules, omega (arith, count, longer), (above ++ s ∷ [], rw map-append (map_push _ above c.in-Some.line.now s m form good), tells))

pub returns-in_err-of-clause-fault : goal.returns-in_err-of-clause-fault
returns-in_err-of-clause-fault c =
    let seen = YieldsList-end (YieldsList-at c.into_iter-line-iterator.ensures.into_iter_gives
    (YieldsList-from_slice_split _ (λ b. b == 10) c.args.text.now c.split-line-items.ensures.rest c.split-line-items.ensures.done c.split-line-items.ensures.closure
    (λ x b q k. search (rules, tests)))) c.loop-line.yielded _ c.loop-line.yielded_by _ _ c.in-None.is c.next.ensures.steps in
    let (_, _, _, told) = c.loop-line.invariant in
    let (above, m, t) = told in
    let p = err_from_is_err_and c.from_residual.result c.from_residual.ensures.1 in
    rw (p.1, p.2) (inr (above, rw seen.0 at m))

pub returns-clause-map : goal.returns-clause-map
returns-clause-map c =
    let seen = YieldsList-end (YieldsList-at c.into_iter-line-iterator.ensures.into_iter_gives
    (YieldsList-from_slice_split _ (λ b. b == 10) c.args.text.now c.split-line-items.ensures.rest c.split-line-items.ensures.done c.split-line-items.ensures.closure
    (λ x b q k. search (rules, tests)))) c.loop-line.yielded _ c.loop-line.yielded_by _ _ c.in-None.is c.next.ensures.steps in
    let (_, _, _, told) = c.loop-line.invariant in
    let (above, m, t) = told in
    let fresh = fresh_of c.loop-line.reading above t in
    let answers = t.answers.stated in
    let rules = t.rules.stated in
    let is = c.in_ok-of.ensures fresh in
    (above, rw seen.0 at m, cc)
