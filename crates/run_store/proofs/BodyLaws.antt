-- Any list of bodies that are written, named and removed.
use Rattle.std.proofs.Common.{◌≡◌, ◌≢◌, ◌⊎◌, inl, inr, ⊎_elim, ◌≤◌, ℕ, Bool, true, false, List, [], ◌∷◌, Option, Some, None, Result, Ok, Err, OnOk, OnErr, refl, sym, subst}
use Rattle.std.specs.Prelude.{bytes_eq}
use Rattle.std.proofs.lemmas.Slice.Eq.{bytes_eq-Decides}
use Rattle.disk_folder.specs.Disks.{LeavesOnly}
use Rattle.disk_folder.proofs.Moments.{at_rest, and_then}
use Rattle.run_store.specs.Recoveries.{IsWhole}
use Rattle.run_store.specs.BodyRuns.{Deed, keeps, breaks, loses, names, removes, HasBody, IsNoPart, MayStand, Spares, AreDeeds, LeavesWhole}

pub on_ok : {T E : Type 0} {A B : Type 0} (r : Result T E) → OnOk r A → (A → B) → OnOk r B
on_ok (Ok x) a f = f a
on_ok (Err e) a f = a

same_or_not : (a n : List ℕ) → (a ≡ n) ⊎ (n ≢ a)
same_or_not a n = go (bytes_eq a n) (bytes_eq-Decides a n).0 (bytes_eq-Decides a n).1
  where
    go : (b : Bool) → (b ≡ true → a ≡ n) → (a ≡ n → b ≡ true) → (a ≡ n) ⊎ (n ≢ a)
    go true to_same from_same = inl (to_same refl)
    go false to_same from_same = inr (λ is. not_both (from_same (sym is)))
      where
        not_both : false ≡ true → ⊥
        not_both h = cc h

module _ {D : Type 0} (opened : D → List ℕ → Type 0) (seen : D → List ℕ → Option (List ℕ) → Type 0) (kept : D → List ℕ → List ℕ → Type 0) (left : D → List ℕ → Option (List ℕ) → Type 0)
    (moment : D → ℕ) (since : D → ℕ → List ℕ → Option (List ℕ) → Type 0)
    (counts_now : (disk : D) (t : ℕ) (n : List ℕ) (c : Option (List ℕ)) → t ≤ moment disk → left disk n c → since disk t n c)
    (only_now : (disk : D) (n : List ℕ) (c : Option (List ℕ)) → since disk (moment disk) n c → left disk n c) where
  -- what a crash after it leaves
  pub behind : (n : List ℕ) (old new : D) (P : Option (List ℕ) → Type 0) → LeavesOnly moment since n old new P → (c : Option (List ℕ)) → left new n c → P c
  behind n old new P leaves c l = leaves.each c (counts_now new (moment old) n c leaves.later l)

  -- a name that is spared by one call and by the next
  pub spared : (n : List ℕ) (old mid new : D) → Spares opened seen kept left moment since n old mid → Spares opened seen kept left moment since n mid new → Spares opened seen kept left moment since n old new
  spared n old mid new one two = and_then moment since n old mid new (left old n) (left mid n) (left old n) one two (λ c l. l) (λ c l. behind n old mid (left old n) one c l)

  -- ---- what is known of parts

  known : (old new : D) (deeds : List Deed) (part body : List ℕ) → AreDeeds opened seen kept left moment since old deeds new → HasBody deeds part body → IsWhole seen kept new part body
  known old new [] part body are has = absurd has
  known old new (keeps p b ∷ older) part body are (inl is) = subst (λ (x : List ℕ). IsWhole seen kept new x body) (sym is.0) (subst (λ (x : List ℕ). IsWhole seen kept new p x) (sym is.1) are.2.0)
  known old new (keeps p b ∷ older) part body are (inr has) = are.2.1.others part has.0 body (known old are.0 older part body are.1 has.1)
  known old new (breaks p ∷ older) part body are has = are.2.others part has.0 body (known old are.0 older part body are.1 has.1)
  known old new (loses p ∷ older) part body are has = absurd has
  known old new (names p n ∷ older) part body are has = are.2.others part has.0 has.1 body (known old are.0 older part body are.1 has.2)
  known old new (removes n ∷ older) part body are has = are.2.others part has.0 body (known old are.0 older part body are.1 has.1)

  -- ---- what a crash leaves under a name

  abbrev Leaves : D → List Deed → List ℕ → D → Type 0
  Leaves old deeds name new = LeavesOnly moment since name old new (MayStand (left old name) name deeds)

  -- a deed that spares the name
  spares_more : (old mid new : D) (name : List ℕ) (P R : Option (List ℕ) → Type 0) → LeavesOnly moment since name old mid P → Spares opened seen kept left moment since name mid new → ((c : Option (List ℕ)) → P c → R c)
      → LeavesOnly moment since name old new R
  spares_more old mid new name P R so_far spares p = and_then moment since name old mid new P (left mid name) R so_far spares p (λ c l. p c (behind name old mid P so_far c l))

  pub leaves_whole : (old new : D) (deeds : List Deed) → AreDeeds opened seen kept left moment since old deeds new → LeavesWhole opened seen kept left moment since old deeds new
  leaves_whole old new [] are whole name no_part = subst (λ (d : D). LeavesOnly moment since name old d (left old name)) (sym are) (at_rest moment since left only_now name old (left old name) (λ c l. l))
  leaves_whole old new (keeps p b ∷ older) are whole name no_part =
      let M = MayStand (left old name) name older in
      spares_more old are.0 new name M M (leaves_whole old are.0 older are.1 whole name no_part.1) (are.2.1.spares name no_part.0) (λ c m. m)
  leaves_whole old new (breaks p ∷ older) are whole name no_part =
      let M = MayStand (left old name) name older in
      spares_more old are.0 new name M M (leaves_whole old are.0 older are.1 whole name no_part.1) (are.2.spares name no_part.0) (λ c m. m)
  leaves_whole old new (loses p ∷ older) are whole name no_part =
      let M = MayStand (left old name) name older in
      spares_more old are.0 new name M M (leaves_whole old are.0 older are.1 whole name no_part.1) (are.2.spares name no_part.0) (λ c m. m)
  leaves_whole old new (names p n ∷ older) are whole name no_part =
      let so_far : (m : List ℕ) → IsNoPart m older → LeavesOnly moment since m old are.0 (MayStand (left old m) m older) = λ m none. leaves_whole old are.0 older are.1 whole.1 m none in
      elim (same_or_not n name) [
        | inl is ↦ subst (λ (m : List ℕ). Leaves old (names p n ∷ older) m new) is
            (and_then moment since n old are.0 new (MayStand (left old n) n older) (λ c. left are.0 n c ⊎ (c ≡ Some whole.0.0)) (MayStand (left old n) n (names p n ∷ older))
            (so_far n (subst (λ (m : List ℕ). IsNoPart m older) (sym is) no_part.1)) (are.2.passes whole.0.0 (known old are.0 older p whole.0.0 are.1 whole.0.1)) (λ c m. inl m)
            (λ c l. ⊎_elim (λ was. inl (behind n old are.0 (MayStand (left old n) n older) (so_far n (subst (λ (m : List ℕ). IsNoPart m older) (sym is) no_part.1)) c was)) (λ now. inr (refl, whole.0.0, whole.0.1, now)) l))
        | inr other ↦ spares_more old are.0 new name (MayStand (left old name) name older) (MayStand (left old name) name (names p n ∷ older)) (so_far name no_part.1) (are.2.spares name no_part.0 other) (λ c m. inl m)
      ]
  leaves_whole old new (removes n ∷ older) are whole name no_part =
      let so_far : (m : List ℕ) → IsNoPart m older → LeavesOnly moment since m old are.0 (MayStand (left old m) m older) = λ m none. leaves_whole old are.0 older are.1 whole m none in
      elim (same_or_not n name) [
        | inl is ↦ subst (λ (m : List ℕ). Leaves old (removes n ∷ older) m new) is
            (and_then moment since n old are.0 new (MayStand (left old n) n older) (λ c. left are.0 n c ⊎ (c ≡ None)) (MayStand (left old n) n (removes n ∷ older))
            (so_far n (subst (λ (m : List ℕ). IsNoPart m older) (sym is) no_part)) are.2.passes (λ c m. inl m)
            (λ c l. ⊎_elim (λ was. inl (behind n old are.0 (MayStand (left old n) n older) (so_far n (subst (λ (m : List ℕ). IsNoPart m older) (sym is) no_part)) c was)) (λ now. inr (refl, now)) l))
        | inr other ↦ spares_more old are.0 new name (MayStand (left old name) name older) (MayStand (left old name) name (removes n ∷ older)) (so_far name no_part) (are.2.spares name other) (λ c m. inl m)
      ]

pub on_both : {T E : Type 0} {A B C : Type 0} (r : Result T E) → OnOk r A → OnOk r B → (A → B → C) → OnOk r C
on_both (Ok x) a b f = f a b
on_both (Err e) a b f = tt

pub on_err : {T E : Type 0} {A : Type 0} (r : Result T E) → A → OnErr r A
on_err (Ok x) a = tt
on_err (Err e) a = a
