-- An index of which it is known only that it represents entries.
use Rattle.std.proofs.Common.{◌≡◌, ◌⊎◌, inl, inr, Bool, true, false, ℕ, List, Option, Result, Ok, Err, OnOk, OnErr, refl, sym, ◌∙◌, ap, subst}
use Rattle.std.proofs.Math.Logic.{∥∥₁_map}
use Rattle.run_store.specs.declared.index.Index.{Index}
use Rattle.run_store.specs.Indexes.{IsIndex, StandsForEntries}

not_both : true ≡ false → ⊥
not_both h = cc h

was_open : {D : Type 0} (old new : Index D) → (old.is_open ≡ false → new ≡ old) → new.is_open ≡ true → old.is_open ≡ true
was_open {D} old new closed is = go old.is_open refl
  where
    go : (b : Bool) → old.is_open ≡ b → old.is_open ≡ true
    go true h = h
    go false h = absurd (not_both (sym is ∙ ap (λ (i : Index D). i.is_open) (closed h) ∙ h))

module _ {D : Type 0} (tells : Type 0) (opened : D → List ℕ → Type 0) (seen : D → List ℕ → Option (List ℕ) → Type 0) (named : D → List ℕ → Type 0) (kept : D → List ℕ → List ℕ → Type 0) where
  pub stands_ok : (old new : Index D) (to_done to_added : List (List ℕ) → List (List ℕ) → List (List ℕ)) → StandsForEntries tells opened seen named kept old → (old.is_open ≡ false → new ≡ old)
      → ((done added : List (List ℕ)) → IsIndex opened seen named kept old done added → IsIndex opened seen named kept new (to_done done added) (to_added done added)) → StandsForEntries tells opened seen named kept new
  stands_ok old new to_done to_added stands closed step told is =
      ∥∥₁_map (stands told (was_open old new closed is)) (λ s. (to_done s.0 s.1, to_added s.0 s.1, step s.0 s.1 s.2))

  pub stands_err : (old new : Index D) → StandsForEntries tells opened seen named kept old → (new ≡ old) ⊎ (new.is_open ≡ false) → StandsForEntries tells opened seen named kept new
  stands_err old new stands (inl same) = subst (λ (i : Index D). StandsForEntries tells opened seen named kept i) (sym same) stands
  stands_err old new stands (inr shut) = λ told is. absurd (not_both (sym is ∙ shut))

  -- after a call, whatever it answered
  pub stands_call : {T E : Type 0} (r : Result T E) (old new : Index D) (to_done to_added : List (List ℕ) → List (List ℕ) → List (List ℕ)) → StandsForEntries tells opened seen named kept old → (old.is_open ≡ false → new ≡ old)
      → ((done added : List (List ℕ)) → IsIndex opened seen named kept old done added → OnOk r (IsIndex opened seen named kept new (to_done done added) (to_added done added)))
      → OnErr r ((new ≡ old) ⊎ (new.is_open ≡ false)) → StandsForEntries tells opened seen named kept new
  stands_call (Ok x) old new to_done to_added stands closed step shut = stands_ok old new to_done to_added stands closed step
  stands_call (Err e) old new to_done to_added stands closed step shut = stands_err old new stands shut
