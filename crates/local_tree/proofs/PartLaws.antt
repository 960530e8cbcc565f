-- Parts that are put one after another, of which some were lost.
use Rattle.std.proofs.Common.{◌≡◌, ◌⊎◌, ℕ, ◌+◌, ◌≤◌, ◌<◌, ◌-◌, ◌^◌, max, min, inl, inr, sym, ◌∙◌, subst, arith}
use Rattle.std.proofs.lemmas.Bool.{cases_lt}
use Rattle.local_tree.specs.Folders.{HasMoreRefused, more_refused, one_more_refused}
use Rattle.local_tree.specs.Shelves.{AreNamed, MakesOnePut}

-- some of the first so many are lost, and for each of these a put failed
abbrev pub AreLost : ℕ → ℕ → ℕ → ℕ → Type 0
AreLost lost i old now = (lost ≤ i) × (now ≡ more_refused old lost)

-- one more failed, and the count of those that did may have been as great as it can be
one_more : (old n mid new : ℕ) → mid ≡ more_refused old n → new ≡ one_more_refused mid → new ≡ more_refused old (n + 1)
one_more old n mid new was is = go (2 ^ 64 - 1) was is
  where
    go : (most : ℕ) → mid ≡ max old (min (old + n) most) → new ≡ max mid (min (mid + 1) most) → new ≡ max old (min (old + (n + 1)) most)
    go most was is = omega (arith, was, is)

-- how many are lost is counted up to the greatest number, as are the puts that failed
none_counted : (old n counted new : ℕ) → counted ≡ min (n + 1) (2 ^ 64 - 1) → new ≡ more_refused old (n + 1) → new ≡ more_refused old counted
none_counted old n counted new so is = go (2 ^ 64 - 1) so is
  where
    go : (most : ℕ) → counted ≡ min (n + 1) most → new ≡ max old (min (old + (n + 1)) most) → new ≡ max old (min (old + counted) most)
    go most so is = omega (arith, so, is)

-- if one is lost, the count has risen
has_risen : (old n new : ℕ) → 0 < n → new ≡ more_refused old n → HasMoreRefused old new
has_risen old n new some is = go (2 ^ 64 - 1) is
  where
    go : (most : ℕ) → new ≡ max old (min (old + n) most) → (old < new) ⊎ (most ≤ new)
    go most is = elim (cases_lt old most) [ inl few ↦ inl (omega (arith, is, few, some)) | inr many ↦ inr (omega (arith, is, many)) ]

pub at_first : (old : ℕ) → AreLost 0 0 old old
at_first old = (omega arith, go (2 ^ 64 - 1))
  where
    go : (most : ℕ) → old ≡ max old (min (old + 0) most)
    go most = omega arith

pub one_put : (lost i old mid new made : ℕ) → AreLost lost i old mid → MakesOnePut lost mid new made → AreLost made (i + 1) old new
one_put lost i old mid new made (few, so) (inl (is, kept)) =
    (omega (arith, few, is), subst (λ (n : ℕ). new ≡ more_refused old n) (sym is) (kept ∙ so))
one_put lost i old mid new made (few, so) (inr (is, more)) =
    (at_most (2 ^ 64 - 1) is, none_counted old lost made new is (one_more old lost mid new so more))
  where
    at_most : (most : ℕ) → made ≡ min (lost + 1) most → made ≤ i + 1
    at_most most is = omega (arith, few, is)

-- at the end
pub all_put : (lost i old now : ℕ) → lost ≤ 0 → AreLost lost i old now → now ≡ old
all_put lost i old now none (few, so) = go (2 ^ 64 - 1) so
  where
    go : (most : ℕ) → now ≡ max old (min (old + lost) most) → now ≡ old
    go most so = omega (arith, so, none)

pub some_lost : (lost i old now : ℕ) → 0 < lost → AreLost lost i old now → HasMoreRefused old now
some_lost lost i old now some (few, so) = has_risen old lost now some so

pub some_named : (names lost old now : ℕ) → AreLost lost names old now → AreNamed names old now (names - lost)
some_named names lost old now (few, so) = record {
  made = names;
  few = omega arith;
  named = omega arith;
  failed = subst (λ (n : ℕ). now ≡ more_refused old n) (go names lost few) so;
}
  where
    go : (names lost : ℕ) → lost ≤ names → lost ≡ names - (names - lost)
    go names lost few = omega (arith, few)
