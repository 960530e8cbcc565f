-- What a lowered depth and an added address leave.
use borrow.Author.Tests.{ltb-true, ltb-false}
use Rattle.std.proofs.lemmas.Slice.Eq.{bytes_eq-Decides}
use Rattle.std.proofs.Common.{◌<◌, length, ◌≤◌, min, ◌≡◌, ℕ, Bool, true, false, nat_lt, List, [], ◌∷◌, ◌++◌, map, slice_get, position, bytes_eq, Option, None, Some, Result, Err, is_some, refl, sym, ap, ◌∙◌, if◌then◌else◌, arith}
use Rattle.address.specs.Address.{AddressText}
use Rattle.indexmap.specs.IndexMap.{insert_entry, set_value_at}
use Rattle.indexmap.proofs.MapLemmas.{Found-position, Missing-position, some_index, insert_entry-first, insert_entry-absent, absent_from_lookup}
use Rattle.depth_labels.specs.Depths.{Table, after_offer, depth_at, lesser}
use Rattle.depth_labels.specs.Offers.{offer_of}
use Rattle.depth_labels.specs.declared.labels.Offer.{Offer}
use Rattle.depth_labels.specs.declared.labels.LabelFault.{LabelFault}

-- a depth that is written at the place of its address is the table after the offer
pub lowered : (depths new : List (AddressText × ℕ)) (address : AddressText) (depth number : ℕ)
    → position (bytes_eq address) (map (λ entry. entry.0) depths) ≡ Some number
    → slice_get (map (λ entry. entry.1) depths) number ≡ depth_at depths address
    → is_some (depth_at depths address) ≡ true
    → ((held : ℕ) → slice_get (map (λ entry. entry.1) depths) number ≡ Some held → new ≡ (if nat_lt depth held then set_value_at depths number depth else depths))
    → new ≡ after_offer depths address depth (depth_at depths address)
lowered depths new address depth number place value is writes = go (depth_at depths address) refl
  where
    split : (held : ℕ) (b : Bool) → (if b then set_value_at depths number depth else depths) ≡ (if b then insert_entry bytes_eq depths address depth else depths)
    split held true = sym (insert_entry-first bytes_eq address depth depths number (Found-position (bytes_eq address) depths number place).first)
    split held false = refl

    go : (held : Option ℕ) → depth_at depths address ≡ held → new ≡ after_offer depths address depth held
    go None e = cc
    go (Some held) e = writes held (value ∙ e) ∙ split held (nat_lt depth held)

-- what the number says that was found for an address
pub record IsNumbered (depths : List (AddressText × ℕ)) (address : AddressText) (number : ℕ) : Type 0 where
  pub place : position (bytes_eq address) (map (λ entry. entry.0) depths) ≡ Some number
  pub within : number < length depths
  pub value : slice_get (map (λ entry. entry.1) depths) number ≡ depth_at depths address
  pub found : is_some (depth_at depths address) ≡ true

pub numbered : (depths : List (AddressText × ℕ)) (address : AddressText) (number : ℕ) → Some number ≡ position (bytes_eq address) (map (λ entry. entry.0) depths) → IsNumbered depths address number
numbered depths address number is =
    let f = Found-position (bytes_eq address) depths number (sym is) in
    record {
      place = sym is;
      within = f.within;
      value = sym f.value;
      found = sym (some_index (bytes_eq address) depths) ∙ ap is_some (sym is);
    }

-- an address without a number isn't held
pub unnumbered : (depths : List (AddressText × ℕ)) (address : AddressText) → None ≡ position (bytes_eq address) (map (λ entry. entry.0) depths) → depth_at depths address ≡ None
unnumbered depths address is = (Missing-position (bytes_eq address) depths (sym is)).value

-- what an offer by number answers is what one by address does
pub answered : (depths : List (AddressText × ℕ)) (address : AddressText) (depth number : ℕ) (offer : Offer) → IsNumbered depths address number
    → ((held : ℕ) → slice_get (map (λ entry. entry.1) depths) number ≡ Some held → offer ≡ offer_of (Some held) depth)
    → offer ≡ offer_of (depth_at depths address) depth
answered depths address depth number offer n says = go (depth_at depths address) refl
  where
    go : (held : Option ℕ) → depth_at depths address ≡ held → offer ≡ offer_of held depth
    go None e = let h = rw e at n.found in cc
    go (Some held) e = says held (n.value ∙ e)

-- a table by its parts
pub table_is : (table : Table) (most : ℕ) (depths : List (AddressText × ℕ)) → table.most ≡ most → table.depths ≡ depths → table ≡ record { most = most; depths = depths; room = table.room }
table_is table most depths m d = rw (← m, ← d) refl

-- the same fault, whatever else might have been answered
pub err_as : {A B : Type 0} (f g : LabelFault) → ◌≡◌ {A = Result A LabelFault} (Err f) (Err g) → ◌≡◌ {A = Result B LabelFault} (Err f) (Err g)
err_as f g e = let k : f ≡ g = cc in ap Err k

-- a copy of a new address is added at the end
pub added : (old mid new : List (AddressText × ℕ)) (address key : AddressText) (depth : ℕ) → depth_at old address ≡ None → mid ≡ old → key ≡ address → new ≡ mid ++ (key, depth) ∷ []
    → new ≡ after_offer old address depth (depth_at old address)
added old mid new address key depth none same copy is = rw none (rw (same, copy) at is)

-- an address that isn't held goes last
pub appended : (depths : List (AddressText × ℕ)) (address : AddressText) (depth : ℕ) → depth_at depths address ≡ None → insert_entry bytes_eq depths address depth ≡ depths ++ (address, depth) ∷ []
appended depths address depth none = insert_entry-absent bytes_eq address depth depths (absent_from_lookup (bytes_eq address) depths none)

-- ---- what the table says after an offer

same_text : (u : AddressText) → bytes_eq u u ≡ true
same_text u = (bytes_eq-Decides u u).1 refl

-- an added address is held at its depth
pub at_added : (depths : List (AddressText × ℕ)) (u : AddressText) (d : ℕ) → depth_at depths u ≡ None → depth_at (depths ++ (u, d) ∷ []) u ≡ Some d
at_added [] u d none = rw (same_text u) refl
at_added (entry ∷ depths) u d none = go (bytes_eq u entry.0) refl (at_added depths u d)
  where
    go : (b : Bool) → bytes_eq u entry.0 ≡ b → (depth_at depths u ≡ None → depth_at (depths ++ (u, d) ∷ []) u ≡ Some d) → depth_at ((entry ∷ depths) ++ (u, d) ∷ []) u ≡ Some d
    go true e later = let h : Some entry.1 ≡ None = rw e at none in cc
    go false e later = rw e (later (rw e at none))

-- and each other address stays as it was
pub beside_added : (depths : List (AddressText × ℕ)) (u v : AddressText) (d : ℕ) → bytes_eq v u ≡ false → depth_at (depths ++ (u, d) ∷ []) v ≡ depth_at depths v
beside_added [] u v d e = rw e refl
beside_added (entry ∷ depths) u v d e = go (bytes_eq v entry.0) refl (beside_added depths u v d e)
  where
    go : (b : Bool) → bytes_eq v entry.0 ≡ b → depth_at (depths ++ (u, d) ∷ []) v ≡ depth_at depths v → depth_at ((entry ∷ depths) ++ (u, d) ∷ []) v ≡ depth_at (entry ∷ depths) v
    go true h later = rw h refl
    go false h later = rw h later

-- a held address that is written is held at what was written
at_written : (depths : List (AddressText × ℕ)) (u : AddressText) (d : ℕ) → depth_at (insert_entry bytes_eq depths u d) u ≡ Some d
at_written [] u d = rw (same_text u) refl
at_written (entry ∷ depths) u d = go (bytes_eq u entry.0) refl (at_written depths u d)
  where
    go : (b : Bool) → bytes_eq u entry.0 ≡ b → depth_at (insert_entry bytes_eq depths u d) u ≡ Some d → depth_at (insert_entry bytes_eq (entry ∷ depths) u d) u ≡ Some d
    go true h later = rw h (rw h refl)
    go false h later = rw h (rw h later)

other_text : (u v : AddressText) → bytes_eq u v ≡ true → (w : AddressText) → bytes_eq w u ≡ false → bytes_eq w v ≡ false
other_text u v e w f = rw (← (bytes_eq-Decides u v).0 e) f

-- what two tables say alike they say alike after an entry
behind : (entry : AddressText × ℕ) (old new : List (AddressText × ℕ)) (v : AddressText) → depth_at new v ≡ depth_at old v → depth_at (entry ∷ new) v ≡ depth_at (entry ∷ old) v
behind entry old new v e = go (bytes_eq v entry.0) refl
  where
    go : (b : Bool) → bytes_eq v entry.0 ≡ b → depth_at (entry ∷ new) v ≡ depth_at (entry ∷ old) v
    go true k = rw k refl
    go false k = rw k e

-- and each other address stays as it was
beside_written : (depths : List (AddressText × ℕ)) (u v : AddressText) (d : ℕ) → bytes_eq v u ≡ false → depth_at (insert_entry bytes_eq depths u d) v ≡ depth_at depths v
beside_written [] u v d e = rw e refl
beside_written (entry ∷ depths) u v d e = go (bytes_eq u entry.0) refl (behind entry depths (insert_entry bytes_eq depths u d) v (beside_written depths u v d e))
  where
    go : (b : Bool) → bytes_eq u entry.0 ≡ b → depth_at (entry ∷ insert_entry bytes_eq depths u d) v ≡ depth_at (entry ∷ depths) v → depth_at (insert_entry bytes_eq (entry ∷ depths) u d) v ≡ depth_at (entry ∷ depths) v
    go true h later = rw h (rw (other_text u entry.0 h v e) refl)
    go false h later = rw h later

-- after an offer the address is held at the lesser depth
pub least_at : (depths : List (AddressText × ℕ)) (u : AddressText) (d : ℕ) → depth_at (after_offer depths u d (depth_at depths u)) u ≡ Some (lesser (depth_at depths u) d)
least_at depths u d = go (depth_at depths u) refl
  where
    less : (held : ℕ) → depth_at depths u ≡ Some held → (b : Bool) → nat_lt d held ≡ b → depth_at (if b then insert_entry bytes_eq depths u d else depths) u ≡ Some (min held d)
    less held e true t = at_written depths u d ∙ ap Some (let h : d < held = ltb-true _ _ t in omega arith)
    less held e false t = e ∙ ap Some (let h : held ≤ d = ltb-false _ _ t in omega arith)

    go : (held : Option ℕ) → depth_at depths u ≡ held → depth_at (after_offer depths u d held) u ≡ Some (lesser held d)
    go None e = at_added depths u d e
    go (Some held) e = less held e (nat_lt d held) refl

-- and each other one as before
pub beside : (depths : List (AddressText × ℕ)) (u v : AddressText) (d : ℕ) (held : Option ℕ) → bytes_eq v u ≡ false → depth_at (after_offer depths u d held) v ≡ depth_at depths v
beside depths u v d None e = beside_added depths u v d e
beside depths u v d (Some held) e = go (nat_lt d held)
  where
    go : (b : Bool) → depth_at (if b then insert_entry bytes_eq depths u d else depths) v ≡ depth_at depths v
    go true = beside_written depths u v d e
    go false = refl
