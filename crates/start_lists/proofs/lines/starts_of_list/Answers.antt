-- The lines that the loop sees are those of the text.
use Rattle.std.proofs.Common.{◌≡◌, ◌≤◌, ◌==◌, ◌∙◌, ◌++◌, ◌∷◌, [], ℕ, List, Some, drop, length, map, option_map, subst, sym, ap, rules, tests, arith}
use Rattle.std.specs.Prelude.{All, slice_get}
use Rattle.std.proofs.lemmas.Iterator.Consumers.{YieldsList-at, YieldsList-so_far, YieldsList-turn, YieldsList-end}
use Rattle.std.proofs.lemmas.Iterator.Splits.{YieldsList-from_slice_split}
use Rattle.std.proofs.lemmas.List.{map-append, length-append, length-map}
use Rattle.std.proofs.lemmas.List.Splits.{length-slice_split}
use Rattle.std.proofs.lemmas.List.Sums.{count_by-le-length}
use Rattle.std.proofs.lemmas.Option.{slice_get-get_or}
use Rattle.start_lists.specs.Lists.{lines_of}
use Rattle.start_lists.specs.declared.lines.TheConstants.{MAX_LINES}
use Rattle.start_lists.proofs.LineLaws.{good_push, starts_push, few_push, first_bad}
use Rattle.start_lists.proofs.lines.starts_of_list.Goals as goal

pub overflow_add-number : goal.overflow_add-number
overflow_add-number c =
    let turn = YieldsList-turn (YieldsList-at c.into_iter-line-iterator.ensures.into_iter_gives
    (YieldsList-from_slice_split _ (λ b. b == 10) c.args.text.now c.split-line-items.ensures.rest c.split-line-items.ensures.done c.split-line-items.ensures.closure
    (λ x b q k. search (rules, tests)))) c.loop-line.yielded _ c.loop-line.yielded_by _ _ c.in-Some.line c.in-Some.is c.next.ensures.steps in
    let (_, _, count, _, _, _) = c.loop-line.invariant in
    let number = length-slice_split (λ b. b == 10) c.args.text.now in
    let below = count_by-le-length (λ b. b == 10) c.args.text.now in
    omega (arith, turn.0, count, number, below)

pub returns-then-is_long-clause-fault : goal.returns-then-is_long-clause-fault
returns-then-is_long-clause-fault c =
    let turn = YieldsList-turn (YieldsList-at c.into_iter-line-iterator.ensures.into_iter_gives
    (YieldsList-from_slice_split _ (λ b. b == 10) c.args.text.now c.split-line-items.ensures.rest c.split-line-items.ensures.done c.split-line-items.ensures.closure
    (λ x b q k. search (rules, tests)))) c.loop-line.yielded _ c.loop-line.yielded_by _ _ c.in-Some.line c.in-Some.is c.next.ensures.steps in
    let (_, _, count, _, _, _) = c.loop-line.invariant in
    let lines = lines_of c.args.text.now in
    let k = length c.loop-line.yielded in
    let line = c.in-Some.line.now in
    let at : slice_get lines k ≡ Some line = slice_get-get_or lines k line turn.0 ∙ ap Some (sym turn.1) in
    let long = c.is_long.ensures.long c.if-is_long.true in
    record { place = k; line = line; is = at; some = long.0; many = omega (arith, count, long.1) }

pub returns-in-Err-clause-fault : goal.returns-in-Err-clause-fault
returns-in-Err-clause-fault c =
    let turn = YieldsList-turn (YieldsList-at c.into_iter-line-iterator.ensures.into_iter_gives
    (YieldsList-from_slice_split _ (λ b. b == 10) c.args.text.now c.split-line-items.ensures.rest c.split-line-items.ensures.done c.split-line-items.ensures.closure
    (λ x b q k. search (rules, tests)))) c.loop-line.yielded _ c.loop-line.yielded_by _ _ c.in-Some.line c.in-Some.is c.next.ensures.steps in
    let seen = YieldsList-so_far (YieldsList-at c.into_iter-line-iterator.ensures.into_iter_gives
    (YieldsList-from_slice_split _ (λ b. b == 10) c.args.text.now c.split-line-items.ensures.rest c.split-line-items.ensures.done c.split-line-items.ensures.closure
    (λ x b q k. search (rules, tests)))) c.loop-line.yielded _ c.loop-line.yielded_by in
    let (_, _, count, good, _, _) = c.loop-line.invariant in
    let lines = lines_of c.args.text.now in
    let k = length c.loop-line.yielded in
    let line = c.in-Some.line.now in
    let at : slice_get lines k ≡ Some line = slice_get-get_or lines k line turn.0 ∙ ap Some (sym turn.1) in
    rw (c.at.ensures, count) (first_bad c.args.by_proxy (option_map (λ b. b.now) c.args.base) c.args.text.now k line c.in-Err.fault at (rw seen at good) c.in-Err.ensures.bad)

pub loop-line-preserved : goal.loop-line-preserved
loop-line-preserved c =
    let (_, _, count, good, few, starts) = c.loop-line.invariant in
    let (added, said, is) = c.in_default.ensures.good in
    let longer = length-append c.loop-line.yielded (c.in-Some.line ∷ []) in
    let base = option_map (λ b. b.now) c.args.base in
    let before = map (λ x. x.now) c.loop-line.yielded in
    let line = c.in-Some.line.now in
    let mapped : map (λ x. x.now) (c.loop-line.yielded ++ c.in-Some.line ∷ []) ≡ before ++ line ∷ [] = search (rules, map-append) in
    let short : MAX_LINES ≤ length before → line ≡ [] = λ many. c.is_long.ensures.short c.if-is_long.false (omega (arith, many, count, length-map c.loop-line.yielded (λ x. x.now))) in (
      search rules,
      search rules,
      omega (arith, count, longer),
      rw map-append (good_push c.args.by_proxy base before line added said good),
      subst (λ (xs : List (List ℕ)). All (λ l. l ≡ []) (drop MAX_LINES xs)) (sym mapped) (few_push before line short few),
      rw map-append (is ∙ starts_push c.args.by_proxy base before line added said c.loop-line.starts.items starts),
    )

pub returns-clause-list : goal.returns-clause-list
returns-clause-list c =
    let seen = YieldsList-end (YieldsList-at c.into_iter-line-iterator.ensures.into_iter_gives
    (YieldsList-from_slice_split _ (λ b. b == 10) c.args.text.now c.split-line-items.ensures.rest c.split-line-items.ensures.done c.split-line-items.ensures.closure
    (λ x b q k. search (rules, tests)))) c.loop-line.yielded _ c.loop-line.yielded_by _ _ c.in-None.is c.next.ensures.steps in
    let (_, _, _, good, few, starts) = c.loop-line.invariant in
    record { good = rw seen.0 at good; few = rw seen.0 at few; named = rw seen.0 at starts }
