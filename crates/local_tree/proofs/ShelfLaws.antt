-- What is said of kept bodies is, for those in memory, what is said of bodies.
use Rattle.std.proofs.Common.{◌≡◌, ◌∙◌, ℕ, List, [], ◌∷◌, get_or, Option, Some, None, refl, sym, ap, subst}
use Rattle.std.specs.Prelude.{IfErr, IsSomeAnd, MatchOption, OnOk, Result, Ok, Err, slice_get}
use Rattle.std.specs.List.{AllZip}
use Rattle.std.specs.Option.{option_map}
use Rattle.std.proofs.lemmas.Option.{get_or_from_slice_get, slice_get-map}
use Rattle.std.proofs.lemmas.Slice.Zip.{AllZip-left}
use Rattle.kept_bodies.specs.Bodies.{BodyValue, bytes_of}
use Rattle.local_tree.specs.Folders.{Files, Holding}
use Rattle.local_tree.specs.SiteFiles.{IsWhole, IsTorn, IsTornBy}
use Rattle.local_tree.specs.Shelves.{IsShelved, IsHalfShelved, IsHalfShelvedBy}
use Rattle.local_tree.specs.declared.site_files.WriteFault.{WriteFault}
use Rattle.local_tree.specs.declared.site_files.WriteFault.TheVariants.{Device}

-- a body in memory is itself
abbrev pub IsItself : BodyValue → BodyValue → Type 0
IsItself kept body = body ≡ kept

-- bodies in memory may be themselves
pub are_themselves : (kept : List BodyValue) → AllZip IsItself kept kept
are_themselves [] = tt
are_themselves (body ∷ kept) = (refl, are_themselves kept)

-- and no others
pub no_others : (kept bodies : List BodyValue) → AllZip IsItself kept bodies → bodies ≡ kept
no_others [] [] are = refl
no_others [] (b ∷ bodies) are = absurd are
no_others (k ∷ kept) [] are = absurd are
no_others (k ∷ kept) (b ∷ bodies) (is, are) = ap (λ (x : BodyValue). x ∷ bodies) is ∙ ap (λ (xs : List BodyValue). k ∷ xs) (no_others kept bodies are)

module _ (names : List (List ℕ)) (kept : List BodyValue) where
  pub whole_from_shelved : (old new : Option Files) → IsShelved IsItself names kept old new → IsWhole names kept old new
  whole_from_shelved old new shelved = shelved kept (are_themselves kept)

  pub shelved_from_whole : (old new : Option Files) → IsWhole names kept old new → IsShelved IsItself names kept old new
  shelved_from_whole old new whole bodies are = subst (λ (bs : List BodyValue). IsWhole names bs old new) (sym (no_others kept bodies are)) whole

  pub torn_from_half : (old new : Holding) (k : ℕ) → IsHalfShelved IsItself names kept old new k → IsTorn names kept old new k
  torn_from_half old new k half = record { place = half.place; files = half.files kept (are_themselves kept); risen = half.risen }

  pub half_from_torn : (old new : Holding) (k : ℕ) → IsTorn names kept old new k → IsHalfShelved IsItself names kept old new k
  half_from_torn old new k torn = record {
    place = torn.place;
    files = λ bodies are. (subst (λ (bs : List BodyValue). IsTorn names bs old new k) (sym (no_others kept bodies are)) torn).files;
    risen = torn.risen;
  }

  -- what a put of all of them answers
  pub shelved_ok : {A E : Type 0} (r : Result A E) (old new : Option Files) → OnOk r (IsWhole names kept old new) → OnOk r (IsShelved IsItself names kept old new)
  shelved_ok (Ok a) old new whole = shelved_from_whole old new whole
  shelved_ok (Err e) old new whole = whole

  pub shelved_err : {A : Type 0} (r : Result A WriteFault) (old new : Holding) → IfErr r (IsTornBy names kept old new) → IfErr r (IsHalfShelvedBy IsItself names kept old new)
  shelved_err (Ok a) old new torn = torn
  shelved_err (Err (Device k)) old new torn = half_from_torn old new k torn

-- one of the bodies that the kept ones may be
pub body_at : {B : Type 0} (holds : B → BodyValue → Type 0) (kept : List B) (bodies : List BodyValue) (i : ℕ) (k : B) → slice_get kept i ≡ Some k → AllZip holds kept bodies
    → (body : BodyValue) × holds k body × (body.bytes ≡ get_or (bytes_of bodies) i [])
body_at {B} holds kept bodies i k at are =
    pick (slice_get bodies i) refl (subst (λ (o : Option B). MatchOption o (Unit {0}) (λ x. IsSomeAnd (slice_get bodies i) (holds x))) at (AllZip-left holds kept bodies are i))
  where
    pick : (o : Option BodyValue) → slice_get bodies i ≡ o → IsSomeAnd o (holds k) → (body : BodyValue) × holds k body × (body.bytes ≡ get_or (bytes_of bodies) i [])
    pick None is held = absurd held
    pick (Some body) is held =
        (body, held, sym (get_or_from_slice_get (bytes_of bodies) i body.bytes [] (slice_get-map (λ (b : BodyValue). b.bytes) bodies i ∙ ap (option_map (λ (b : BodyValue). b.bytes)) is)))
