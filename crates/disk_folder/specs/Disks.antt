-- What the calls of a disk do to the files under names, and what a crash may leave of them.
use Rattle.std.specs.Prelude.{◌≡◌, ◌⊎◌, ◌≤◌, ℕ, List, [], ◌∷◌, ◌++◌, Option, Some, None, Vec}
use Rattle.std.specs.declared.alloc.Global.{Global}

-- each of these bytes or a zero in its place, up to any length
abbrev pub Holed : List ℕ → List ℕ → Type 0
Holed bytes [] = Unit {0}
Holed [] (y ∷ ys) = ⊥
Holed (x ∷ xs) (y ∷ ys) = ((y ≡ x) ⊎ (y ≡ 0)) × Holed xs ys

-- the first bytes whole, and the others as a crash leaves what isn't synced
pub record IsTorn (base tail bytes : List ℕ) : Type 0 where
  pub rest : List ℕ
  pub split : bytes ≡ base ++ rest
  pub holed : Holed tail rest

-- each of what may be left is such
abbrev pub AreTorn : List ℕ → List ℕ → (List ℕ → Type 0) → Type 0
AreTorn base tail kept = (x : List ℕ) → kept x → IsTorn base tail x

-- after what wasn't synced there is more
abbrev pub Adds : List ℕ → List ℕ → List ℕ → (List ℕ → Type 0) → (List ℕ → Type 0) → Type 0
Adds base tail bytes old new = AreTorn base tail old → AreTorn base (tail ++ bytes) new

-- Time goes on: a crash since t may have left what it may have left before, or what it may leave now.
pub record Elapses (before now : ℕ) (past since : ℕ → List ℕ → Option (List ℕ) → Type 0) (left : List ℕ → Option (List ℕ) → Type 0) : Type 0 where
  pub later : before ≤ now
  pub nothing_else : (t : ℕ) (n : List ℕ) (c : Option (List ℕ)) → t ≤ before → since t n c → past t n c ⊎ left n c
  pub keeps : (t : ℕ) (n : List ℕ) (c : Option (List ℕ)) → t ≤ before → past t n c → since t n c

-- A crash at any moment since old leaves under a name what has P.
pub record LeavesOnly {D : Type 0} (moment : D → ℕ) (since : D → ℕ → List ℕ → Option (List ℕ) → Type 0) (name : List ℕ) (old new : D) (P : Option (List ℕ) → Type 0) : Type 0 where
  pub later : moment old ≤ moment new
  pub each : (c : Option (List ℕ)) → since new (moment old) name c → P c
  -- for a run that began earlier
  pub before : (t : ℕ) (c : Option (List ℕ)) → t ≤ moment old → since new t name c → since old t name c ⊎ P c

-- these bytes were found
abbrev pub HasBytes : List ℕ → Option (Vec ℕ Global) → Type 0
HasBytes bytes None = ⊥
HasBytes bytes (Some v) = v.items ≡ bytes
