-- Any list of bodies that are written, named and removed, and what a crash at any moment of it may leave under a name.
use Rattle.std.specs.Prelude.{◌≡◌, ◌≢◌, ◌⊎◌, ℕ, List, [], ◌∷◌, Option, Some, None}
use Rattle.disk_folder.specs.Disks.{LeavesOnly}
use Rattle.run_store.specs.Parts.{IsBegun}
use Rattle.run_store.specs.Recoveries.{IsWhole}

-- what was done to the files of bodies
pub data Deed : Type 0 where
  -- a part was begun under this name, got these bytes, and was finished
  keeps : List ℕ → List ℕ → Deed
  -- a part was begun under this name, and not finished
  breaks : List ℕ → Deed
  -- likewise, and its sync failed: nothing is known of any part any more
  loses : List ℕ → Deed
  -- a part got this name, or that failed
  names : List ℕ → List ℕ → Deed
  -- what is under a name was removed, or that failed
  removes : List ℕ → Deed

-- After these deeds, the last of which comes first, a part has this whole body: it was finished with these bytes, and nothing was done with it since.
abbrev pub HasBody : List Deed → List ℕ → List ℕ → Type 0
HasBody [] part body = ⊥
HasBody (keeps p b ∷ older) part body = ((part ≡ p) × (body ≡ b)) ⊎ ((part ≢ p) × HasBody older part body)
HasBody (breaks p ∷ older) part body = (part ≢ p) × HasBody older part body
HasBody (loses p ∷ older) part body = ⊥
HasBody (names p n ∷ older) part body = (part ≢ p) × (part ≢ n) × HasBody older part body
HasBody (removes n ∷ older) part body = (part ≢ n) × HasBody older part body

-- each name was given to a part that had a whole body
abbrev pub NamesWhole : List Deed → Type 0
NamesWhole [] = Unit {0}
NamesWhole (keeps p b ∷ older) = NamesWhole older
NamesWhole (breaks p ∷ older) = NamesWhole older
NamesWhole (loses p ∷ older) = NamesWhole older
NamesWhole (names p n ∷ older) = ((body : List ℕ) × HasBody older p body) × NamesWhole older
NamesWhole (removes n ∷ older) = NamesWhole older

-- a name that no part had
abbrev pub IsNoPart : List ℕ → List Deed → Type 0
IsNoPart name [] = Unit {0}
IsNoPart name (keeps p b ∷ older) = (name ≢ p) × IsNoPart name older
IsNoPart name (breaks p ∷ older) = (name ≢ p) × IsNoPart name older
IsNoPart name (loses p ∷ older) = (name ≢ p) × IsNoPart name older
IsNoPart name (names p n ∷ older) = (name ≢ p) × IsNoPart name older
IsNoPart name (removes n ∷ older) = IsNoPart name older

-- What a crash may leave under a name: what one before all of it might have left, the whole body of a part that got the name, or nothing, if it was removed.
abbrev pub MayStand : (Option (List ℕ) → Type 0) → List ℕ → List Deed → Option (List ℕ) → Type 0
MayStand first name [] c = first c
MayStand first name (keeps p b ∷ older) c = MayStand first name older c
MayStand first name (breaks p ∷ older) c = MayStand first name older c
MayStand first name (loses p ∷ older) c = MayStand first name older c
MayStand first name (names p n ∷ older) c = MayStand first name older c ⊎ ((name ≡ n) × (body : List ℕ) × HasBody older p body × (c ≡ Some body))
MayStand first name (removes n ∷ older) c = MayStand first name older c ⊎ ((name ≡ n) × (c ≡ None))

module _ {D : Type 0} (opened : D → List ℕ → Type 0) (seen : D → List ℕ → Option (List ℕ) → Type 0) (kept : D → List ℕ → List ℕ → Type 0) (left : D → List ℕ → Option (List ℕ) → Type 0)
    (moment : D → ℕ) (since : D → ℕ → List ℕ → Option (List ℕ) → Type 0) where
  -- at any moment a crash leaves under a name what one before might have left
  abbrev pub Spares : List ℕ → D → D → Type 0
  Spares name old new = LeavesOnly moment since name old new (left old name)

  -- parts that have their bodies keep them
  abbrev pub Stays : List ℕ → D → D → Type 0
  Stays name old new = (body : List ℕ) → IsWhole seen kept old name body → IsWhole seen kept new name body

  -- a part was begun there, and has these bytes so far
  pub record IsWriting (part bytes : List ℕ) (old new : D) : Type 0 where
    pub begun : IsBegun opened seen new part bytes
    pub stays : (n : List ℕ) → n ≢ part → Stays n old new
    pub spares : (n : List ℕ) → n ≢ part → Spares n old new

  -- a deed that had to do with one part alone
  pub record IsOfPart (part : List ℕ) (stays : List ℕ → Type 0) (old new : D) : Type 0 where
    pub others : (n : List ℕ) → n ≢ part → stays n
    pub spares : (n : List ℕ) → n ≢ part → Spares n old new

  -- a part got a name, or that failed
  pub record IsNaming (part name : List ℕ) (old new : D) : Type 0 where
    pub others : (n : List ℕ) → n ≢ part → n ≢ name → Stays n old new
    pub spares : (n : List ℕ) → n ≢ part → n ≢ name → Spares n old new
    pub passes : (body : List ℕ) → IsWhole seen kept old part body → LeavesOnly moment since name old new (λ c. left old name c ⊎ (c ≡ Some body))

  pub record IsRemoval (name : List ℕ) (old new : D) : Type 0 where
    pub others : (n : List ℕ) → n ≢ name → Stays n old new
    pub spares : (n : List ℕ) → n ≢ name → Spares n old new
    pub passes : LeavesOnly moment since name old new (λ c. left old name c ⊎ (c ≡ None))

  -- what a deed makes of the disk
  abbrev pub IsDeed : Deed → D → D → Type 0
  IsDeed (keeps p b) old new = IsWhole seen kept new p b × IsOfPart p (λ n. Stays n old new) old new
  IsDeed (breaks p) old new = IsOfPart p (λ n. Stays n old new) old new
  IsDeed (loses p) old new = IsOfPart p (λ n. Unit {0}) old new
  IsDeed (names p n) old new = IsNaming p n old new
  IsDeed (removes n) old new = IsRemoval n old new

  -- what these make of it, the last of which comes first
  abbrev pub AreDeeds : D → List Deed → D → Type 0
  AreDeeds old [] new = new ≡ old
  AreDeeds old (deed ∷ older) new = (mid : D) × AreDeeds old older mid × IsDeed deed mid new

  -- If each name was given to a part that had a whole body, a crash at any moment since the first deed leaves nothing else under a name that no part had.
  abbrev pub LeavesWhole : D → List Deed → D → Type 0
  LeavesWhole old deeds new = NamesWhole deeds → (name : List ℕ) → IsNoPart name deeds → LeavesOnly moment since name old new (MayStand (left old name) name deeds)
