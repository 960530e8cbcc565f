-- How an order of states grows.
use Rattle.std.proofs.Common.{◌≡◌, ◌≢◌, ℕ, ◌+◌, ◌<◌, ◌≤◌, List, [], ◌∷◌, ◌++◌, length, slice_index, refl, sym, ap, ◌∙◌, subst, ⊎_elim, arith, length-append}
use Rattle.std.proofs.lemmas.Bool.{cases_lt, cases_eq}
use Rattle.std.proofs.lemmas.List.{get_or_append_left, get_or_push}
use Rattle.regex_nfa.specs.declared.nfa.Nfa.{Nfa}
use Rattle.expressions.specs.inner.Order.{IsOrder, IsOrderUpTo}

pub order_none : (ranks : List ℕ) → IsOrderUpTo ranks [] 0 0
order_none ranks = record {
  within = λ k h. absurd (omega arith);
  rising = λ j k le h. absurd (omega arith);
  has = λ q is_state low first. absurd (omega (arith, first (omega (arith, low))));
}

-- the state isn't of the rank
pub order_skip : (ranks order : List ℕ) (rank state : ℕ) → slice_index ranks state ≢ rank → IsOrderUpTo ranks order rank state → IsOrderUpTo ranks order rank (state + 1)
order_skip ranks order rank state other ordered = record {
  within = ordered.within;
  rising = ordered.rising;
  has = λ q is_state low first. ordered.has q is_state low (λ at_rank.
      ⊎_elim (λ yes. yes)
      (λ (past : state ≤ q). let same : q ≡ state = omega (arith, past, first at_rank) in absurd (other (ap (λ s. slice_index ranks s) (sym same) ∙ at_rank)))
      (cases_lt q state));
}

-- what is true of the elements and of one more is true of all
at_each : (order : List ℕ) (state : ℕ) (P : ℕ → Type 0) → ((k : ℕ) → k < length order → P (slice_index order k)) → P state → (k : ℕ) → k < length (order ++ state ∷ []) → P (slice_index (order ++ state ∷ []) k)
at_each order state P each last k below =
    ⊎_elim
    (λ (inside : k < length order). subst P (sym (get_or_append_left order (state ∷ []) 0 k inside)) (each k inside))
    (λ (past : length order ≤ k).
    let end : length order ≡ k = omega (arith, past, below, length-append order (state ∷ [])) in subst P (sym (get_or_push order state 0 k end)) last)
    (cases_lt k (length order))

-- the state is of the rank
pub order_more : (ranks order : List ℕ) (rank state : ℕ) → state < length ranks → slice_index ranks state ≡ rank → IsOrderUpTo ranks order rank state →
    IsOrderUpTo ranks (order ++ state ∷ []) rank (state + 1)
order_more ranks order rank state is_state at_rank ordered =
    let within = at_each order state (λ s. (s < length ranks) × (slice_index ranks s ≤ rank)) ordered.within (is_state, omega (arith, at_rank)) in
    record {
      within = within;
      rising = λ j k le h. ⊎_elim
          (λ (inside : k < length order).
          subst (λ s. slice_index ranks (slice_index (order ++ state ∷ []) j) ≤ slice_index ranks s) (sym (get_or_append_left order (state ∷ []) 0 k inside))
          (subst (λ s. slice_index ranks s ≤ slice_index ranks (slice_index order k)) (sym (get_or_append_left order (state ∷ []) 0 j (omega (arith, le, inside)))) (ordered.rising j k le inside)))
          (λ (past : length order ≤ k).
          let end : length order ≡ k = omega (arith, past, h, length-append order (state ∷ [])) in
          let last : slice_index ranks (slice_index (order ++ state ∷ []) k) ≡ rank = ap (λ s. slice_index ranks s) (get_or_push order state 0 k end) ∙ at_rank in
          omega (arith, (within j (omega (arith, le, h))).1, last))
          (cases_lt k (length order));
      has = λ q q_is_state low first. ⊎_elim
          (λ (same : q ≡ state). (length order, omega (arith, length-append order (state ∷ [])), get_or_push order state 0 (length order) refl ∙ sym same))
          (λ (other : q ≡ state → ⊥).
          let place = ordered.has q q_is_state low (λ q_at_rank. ⊎_elim (λ yes. yes) (λ (past : state ≤ q). absurd (other (omega (arith, past, first q_at_rank)))) (cases_lt q state)) in
          (place.0, omega (arith, place.1, length-append order (state ∷ [])), get_or_append_left order (state ∷ []) 0 place.0 place.1 ∙ place.2))
          (cases_eq q state);
    }

-- all states of the rank are there
pub order_next : (ranks order : List ℕ) (rank : ℕ) → IsOrderUpTo ranks order rank (length ranks) → IsOrderUpTo ranks order (rank + 1) 0
order_next ranks order rank ordered = record {
  within = λ k h. let w = ordered.within k h in (w.0, omega (arith, w.1));
  rising = ordered.rising;
  has = λ q is_state low first.
      let lower : slice_index ranks q ≤ rank = ⊎_elim (λ (yes : slice_index ranks q < rank + 1). omega (arith, yes))
      (λ (past : rank + 1 ≤ slice_index ranks q). absurd (omega (arith, first (omega (arith, past, low))))) (cases_lt (slice_index ranks q) (rank + 1)) in
      ordered.has q is_state lower (λ at_rank. is_state);
}

-- all states are there
pub order_done : (nfa : Nfa) (order : List ℕ) → IsOrderUpTo nfa.ranks.items order (length nfa.ranks.items) 0 → IsOrder nfa order
order_done nfa order ordered = record {
  within = λ k h. (ordered.within k h).0;
  rising = ordered.rising;
  has = λ q is_state.
      let lower : slice_index nfa.ranks.items q < length nfa.ranks.items = omega (arith, nfa.ranks_below q 0 is_state, nfa.ranks_len) in
      ordered.has q is_state (omega (arith, lower)) (λ at_rank. absurd (omega (arith, lower, at_rank)));
}
