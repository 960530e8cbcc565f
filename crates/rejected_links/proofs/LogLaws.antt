-- A harvest has one log: lines in order, each once, are determined by which they are.
use Rattle.std.proofs.Common.{◌≡◌, ℕ, suc, zero, ◌+◌, ◌<◌, ◌⊎◌, inl, inr, true≢false, List, [], ◌∷◌, ◌++◌, length, map, refl, sym, ap, ap₂, ◌∙◌, subst, arith}
use Rattle.std.specs.Prelude.{Contains}
use Rattle.std.specs.List.{flat_map}
use Rattle.address.specs.AddressOrder.{IsBefore, IsAscending}
use Rattle.address.proofs.AddressOrderLaws.{not_before, not_before_itself}
use Rattle.harvest.specs.Harvests.{Harvested}
use Rattle.rejected_links.specs.Lines.{Rejected, line_text, header}
use Rattle.rejected_links.specs.Rejections.{IsRejected, IsLogOf}
use Rattle.rejected_links.proofs.ListLaws.{contains_tail, contains_cases, to_map, from_map}

-- ---- texts in order, each once

first_before : (x z : List ℕ) (xs : List (List ℕ)) → IsAscending (x ∷ xs) → Contains xs z → IsBefore x z
first_before x z xs up (k, lt, e) = subst (IsBefore x) e (up zero (suc k) z (omega arith) (omega (arith, lt)))

rest_ascends : (x : List ℕ) (xs : List (List ℕ)) → IsAscending (x ∷ xs) → IsAscending xs
rest_ascends x xs up = λ i j d lt lj. up (suc i) (suc j) d (omega (arith, lt)) (omega (arith, lj))

first_is : (x y : List ℕ) (xs ys : List (List ℕ)) → IsAscending (x ∷ xs) → IsAscending (y ∷ ys) → Contains (y ∷ ys) x → Contains (x ∷ xs) y → x ≡ y
first_is x y xs ys up above there here =
    elim (contains_cases y x ys there) [
      | inl is ↦ sym is
      | inr later ↦ elim (contains_cases x y xs here) [
        | inl is ↦ is
        | inr after ↦ absurd (true≢false (sym (first_before y x ys above later) ∙ not_before x y (first_before x y xs up after)))
      ]
    ]

rest_among : (x y : List ℕ) (xs ys : List (List ℕ)) → x ≡ y → IsAscending (x ∷ xs) → ((z : List ℕ) → Contains (x ∷ xs) z → Contains (y ∷ ys) z) → (z : List ℕ) → Contains xs z → Contains ys z
rest_among x y xs ys same up among z inside =
    elim (contains_cases y z ys (among z (contains_tail x z xs inside))) [
      | inl is ↦ absurd (not_before_itself x (subst (IsBefore x) (sym (same ∙ is)) (first_before x z xs up inside)))
      | inr later ↦ later
    ]

-- lists of the same texts, in order and each once, are equal
pub ascending_same : (xs ys : List (List ℕ)) → IsAscending xs → IsAscending ys → ((z : List ℕ) → Contains xs z → Contains ys z) → ((z : List ℕ) → Contains ys z → Contains xs z) → xs ≡ ys
ascending_same [] [] up above to from = refl
ascending_same [] (y ∷ ys) up above to from = absurd (omega (arith, (from y (zero, omega arith, refl)).1))
ascending_same (x ∷ xs) [] up above to from = absurd (omega (arith, (to x (zero, omega arith, refl)).1))
ascending_same (x ∷ xs) (y ∷ ys) up above to from =
    let same = first_is x y xs ys up above (to x (zero, omega arith, refl)) (from y (zero, omega arith, refl)) in
    ap₂ ◌∷◌ same (ascending_same xs ys (rest_ascends x xs up) (rest_ascends y ys above) (rest_among x y xs ys same up to) (rest_among y x ys xs (sym same) above from))

-- ---- the log

joined : (links : List Rejected) → flat_map line_text links ≡ flat_map (λ line. line) (map line_text links)
joined [] = refl
joined (link ∷ links) = ap (λ rest. line_text link ++ rest) (joined links)

lines_among : {B : Type 0} (h : Harvested B) (text other : List ℕ) (log : IsLogOf h text) (its : IsLogOf h other) → (line : List ℕ) → Contains (map line_text log.links) line → Contains (map line_text its.links) line
lines_among h text other log its line among =
    let (link, there, is) = from_map line_text log.links line among in
    subst (Contains (map line_text its.links)) is (to_map line_text its.links link ((its.rejected link).1 ((log.rejected link).0 there)))

-- two logs of a harvest are equal
pub one_log : {B : Type 0} (h : Harvested B) (text other : List ℕ) → IsLogOf h text → IsLogOf h other → text ≡ other
one_log h text other log its =
    let lines = ascending_same (map line_text log.links) (map line_text its.links) log.ascending its.ascending (lines_among h text other log its) (lines_among h other text its log) in
    log.whole ∙ ap (λ rest. header ++ rest) (joined log.links ∙ ap (flat_map (λ line. line)) lines ∙ sym (joined its.links)) ∙ sym its.whole
