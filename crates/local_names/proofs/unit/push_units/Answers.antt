use Rattle.std.proofs.Common.{◌≡◌, ◌-◌, ◌<◌, ◌≤◌, ℕ, Option, List, ◌++◌, map, length, take, drop, append_assoc, append-nil, sym, ap, subst, ◌∙◌, arith, length-drop, length-take-le, take_all}
use Rattle.std.proofs.lemmas.Bool.Decides.{nat_tests}
use Rattle.std.proofs.lemmas.List.{nil_from_length}
use Rattle.bstr.specs.Utf8.{decoded}
use Rattle.bstr.proofs.lemmas.PieceLemmas.{piece-bounds}
use Rattle.local_names.specs.PlainNames.{piece_units, units_of}
use Rattle.local_names.specs.inner.Units.{unit_text}
use Rattle.local_names.proofs.UnitLaws.{units_of-nil, units_of-step}
use Rattle.local_names.proofs.unit.push_units.Goals as goal

pub slice_bounds-push_piece-end : goal.slice_bounds-push_piece-end
slice_bounds-push_piece-end c =
    let bs = c.pieces.rest.now in
    let size = c.decode-found.result.1 in
    let some : 0 < length bs = grind (arith, nat_tests, c.is_empty.ensures, c.pieces-test.true) in
    let bounds = subst (λ k. (1 ≤ k) × (k ≤ 4) × (k ≤ length bs)) (sym c.decode-found.ensures.size) (piece-bounds bs some) in
    sym (length-take-le size bs bounds.2)

pub slice_bounds-rest-count : goal.slice_bounds-rest-count
slice_bounds-rest-count c =
    let bs = c.pieces.rest.now in
    let size = c.decode-found.result.1 in
    let some : 0 < length bs = grind (arith, nat_tests, c.is_empty.ensures, c.pieces-test.true) in
    let bounds = subst (λ k. (1 ≤ k) × (k ≤ 4) × (k ≤ length bs)) (sym c.decode-found.ensures.size) (piece-bounds bs some) in
    bounds.2

pub slice_bounds-rest-start : goal.slice_bounds-rest-start
slice_bounds-rest-start c =
    let bs = c.pieces.rest.now in
    let size = c.decode-found.result.1 in
    let some : 0 < length bs = grind (arith, nat_tests, c.is_empty.ensures, c.pieces-test.true) in
    let bounds = subst (λ k. (1 ≤ k) × (k ≤ 4) × (k ≤ length bs)) (sym c.decode-found.ensures.size) (piece-bounds bs some) in
    bounds.2

pub pieces-smaller : goal.pieces-smaller
pieces-smaller c =
    let bs = c.pieces.rest.now in
    let size = c.decode-found.result.1 in
    let some : 0 < length bs = grind (arith, nat_tests, c.is_empty.ensures, c.pieces-test.true) in
    let bounds = subst (λ k. (1 ≤ k) × (k ≤ 4) × (k ≤ length bs)) (sym c.decode-found.ensures.size) (piece-bounds bs some) in
    let whole : take (length bs - size) (drop size bs) ≡ drop size bs = take_all _ _ (omega (arith, length-drop size bs)) in
    let smaller : length (take (length bs - size) (drop size bs)) < length bs = omega (arith, ap length whole, length-drop size bs, bounds.0) in
    smaller

pub pieces-preserved : goal.pieces-preserved
pieces-preserved c =
    let bs = c.pieces.rest.now in
    let rules = c.args.rules in
    let found = c.decode-found.result.0 in
    let size = c.decode-found.result.1 in
    let now = map unit_text c.pieces.units.items in
    let some : 0 < length bs = grind (arith, nat_tests, c.is_empty.ensures, c.pieces-test.true) in
    let whole : take (length bs - size) (drop size bs) ≡ drop size bs = take_all _ _ (omega (arith, length-drop size bs)) in
    let both : Option ℕ → ℕ → List (List ℕ) = λ o n. piece_units rules o (take n bs) ++ units_of rules (drop n bs) in
    let step : both found size ≡ units_of rules bs =
    ap (λ o. both o size) c.decode-found.ensures.char ∙ ap (λ n. both (decoded bs).char n) c.decode-found.ensures.size ∙ sym (units_of-step rules bs some) in
    ap (λ t. map unit_text c.push_piece.new.units.items ++ units_of rules t) whole
    ∙ ap (λ (us : List (List ℕ)). us ++ units_of rules (drop size bs)) c.in_ok-push_piece.ensures
    ∙ append_assoc now (piece_units rules found (take size bs)) (units_of rules (drop size bs))
    ∙ ap (λ us. now ++ us) step
    ∙ c.pieces.invariant

pub returns : goal.returns
returns c =
    let rest = c.pieces.rest.now in
    let now = map unit_text c.pieces.units.items in
    let none : length rest ≡ 0 = grind (arith, nat_tests, c.is_empty.ensures, c.pieces-test.false) in
    sym (append-nil now) ∙ ap (λ us. now ++ us) (sym (ap (units_of c.args.rules) (nil_from_length rest none) ∙ units_of-nil c.args.rules)) ∙ c.pieces.invariant
