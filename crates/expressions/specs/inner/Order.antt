-- Orders of the states of an automaton by their ranks, which fall along each edge that reads no byte.
use Rattle.std.specs.Prelude.{◌≡◌, ℕ, ◌<◌, ◌≤◌, List, length, slice_index}
use Rattle.regex_nfa.specs.declared.nfa.Nfa.{Nfa}

-- The order has the states of lower ranks than this, and those of this rank that have lower numbers than this, with no rank before a lower one.
pub record IsOrderUpTo (ranks order : List ℕ) (rank number : ℕ) : Type 0 where
  pub within : (k : ℕ) → k < length order → (slice_index order k < length ranks) × (slice_index ranks (slice_index order k) ≤ rank)
  pub rising : (j k : ℕ) → j ≤ k → k < length order → slice_index ranks (slice_index order j) ≤ slice_index ranks (slice_index order k)
  pub has : (q : ℕ) → q < length ranks → slice_index ranks q ≤ rank → (slice_index ranks q ≡ rank → q < number) → (k : ℕ) × (k < length order) × (slice_index order k ≡ q)

-- the order has each state of the automaton, and none before one of a lower rank
pub record IsOrder (nfa : Nfa) (order : List ℕ) : Type 0 where
  pub within : (k : ℕ) → k < length order → slice_index order k < length nfa.ranks.items
  pub rising : (j k : ℕ) → j ≤ k → k < length order → slice_index nfa.ranks.items (slice_index order j) ≤ slice_index nfa.ranks.items (slice_index order k)
  pub has : (q : ℕ) → q < length nfa.ranks.items → (k : ℕ) × (k < length order) × (slice_index order k ≡ q)
