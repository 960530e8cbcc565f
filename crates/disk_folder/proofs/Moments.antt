-- How a run of a disk's calls goes on.
use Rattle.std.proofs.Common.{inl, inr, ⊎_elim, ℕ, List, Option, arith}
use Rattle.disk_folder.specs.Disks.{Elapses, LeavesOnly}

module _ {D : Type 0} (moment : D → ℕ) (since : D → ℕ → List ℕ → Option (List ℕ) → Type 0) (left : D → List ℕ → Option (List ℕ) → Type 0)
    (only_now : (disk : D) (n : List ℕ) (c : Option (List ℕ)) → since disk (moment disk) n c → left disk n c) where
  -- no call
  pub at_rest : (name : List ℕ) (disk : D) (P : Option (List ℕ) → Type 0) → ((c : Option (List ℕ)) → left disk name c → P c) → LeavesOnly moment since name disk disk P
  at_rest name disk P here = record { later = omega arith; each = λ c s. here c (only_now disk name c s); before = λ t c le s. inl s }

  -- one call more, after which a crash leaves what has P
  pub goes_on : (name : List ℕ) (old mid new : D) (P : Option (List ℕ) → Type 0) → LeavesOnly moment since name old mid P → Elapses (moment mid) (moment new) (since mid) (since new) (left new)
      → ((c : Option (List ℕ)) → left new name c → P c) → LeavesOnly moment since name old new P
  goes_on name old mid new P so_far time here = record {
    later = omega (arith, so_far.later, time.later);
    each = λ c s. ⊎_elim (so_far.each c) (here c) (time.nothing_else (moment old) name c so_far.later s);
    before = λ t c le s. ⊎_elim (so_far.before t c le) (λ now. inr (here c now)) (time.nothing_else t name c (omega (arith, le, so_far.later)) s);
  }

  -- one call
  pub one_call : (name : List ℕ) (old new : D) (P : Option (List ℕ) → Type 0) → Elapses (moment old) (moment new) (since old) (since new) (left new)
      → ((c : Option (List ℕ)) → left old name c → P c) → ((c : Option (List ℕ)) → left new name c → P c) → LeavesOnly moment since name old new P
  one_call name old new P time before behind = goes_on name old old new P (at_rest name old P before) time behind

-- one run after another
pub and_then : {D : Type 0} (moment : D → ℕ) (since : D → ℕ → List ℕ → Option (List ℕ) → Type 0) (name : List ℕ) (old mid new : D) (P Q R : Option (List ℕ) → Type 0)
    → LeavesOnly moment since name old mid P → LeavesOnly moment since name mid new Q → ((c : Option (List ℕ)) → P c → R c) → ((c : Option (List ℕ)) → Q c → R c) → LeavesOnly moment since name old new R
and_then moment since name old mid new P Q R first second p q = record {
  later = omega (arith, first.later, second.later);
  each = λ c s. ⊎_elim (λ s'. p c (first.each c s')) (λ b. q c b) (second.before (moment old) c first.later s);
  before = λ t c le s. ⊎_elim (λ s'. ⊎_elim (λ o. inl o) (λ a. inr (p c a)) (first.before t c le s')) (λ b. inr (q c b)) (second.before t c (omega (arith, le, first.later)) s);
}
