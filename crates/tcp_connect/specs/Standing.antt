-- Open connections: how many, which waits longest, and which goes for a new one.
use Rattle.std.specs.Prelude.{◌≡◌, ◌≢◌, ◌⊎◌, ◌<◌, ◌≤◌, ◌==◌, ◌+◌, ◌^◌, ℕ, Bool, true, false, ◌&&◌, List, [], ◌∷◌, ◌++◌, Option, Some, None, MatchOption, All, AllPairs, length, count_by, slice_get, slice_set, remove, bytes_eq, is_some}
use Rattle.std.specs.List.{list_any}
use Rattle.address.specs.Address.{OriginText}
use Rattle.tcp_connect.specs.declared.standing.TheConstants.{MOST}

-- an open connection: its number, the bytes of the origin that it was made for, and what waits there, if it isn't in use
pub record Stand (W : Type 0) : Type 0 where
  pub number : ℕ
  pub of : List ℕ
  pub waiting : Option W

-- the open ones, in the order in which they were entered or last put down, and how many were entered
pub record Pool (W : Type 0) : Type 0 where
  pub stands : List (Stand W)
  pub entered : ℕ

-- no more are open than may be, each by a number that was given, and that no other has
pub record IsStandPool {W : Type 0} (pool : Pool W) : Type 0 where
  pub few : length pool.stands ≤ MOST
  pub given : All (λ stand. stand.number < pool.entered) pool.stands
  pub distinct : AllPairs (λ one other. one.number ≢ other.number) pool.stands

-- it isn't in use
abbrev pub waits : {W : Type 0} → Stand W → Bool
waits stand = is_some stand.waiting

-- it was made for this origin
abbrev pub is_to : {W : Type 0} → List ℕ → Stand W → Bool
is_to of stand = bytes_eq stand.of of

-- it was made for this origin, and isn't in use
abbrev pub waits_for : {W : Type 0} → List ℕ → Stand W → Bool
waits_for of stand = waits stand && is_to of stand

-- it has this number
abbrev pub has_number : {W : Type 0} → ℕ → Stand W → Bool
has_number number stand = stand.number == number

-- how many are open to an origin
abbrev pub count_to : {W : Type 0} → List (Stand W) → List ℕ → ℕ
count_to stands of = count_by (is_to of) stands

-- none of these passes
abbrev pub NonePasses : {W : Type 0} → (Stand W → Bool) → List (Stand W) → Type 0
NonePasses {W} test stands = (k : ℕ) (stand : Stand W) → slice_get stands k ≡ Some stand → test stand ≡ false

-- the one there is the first of those that pass
pub record IsFirst {W : Type 0} (test : Stand W → Bool) (stands : List (Stand W)) (at : ℕ) (stand : Stand W) : Type 0 where
  pub there : slice_get stands at ≡ Some stand
  pub passes : test stand ≡ true
  pub first : (k : ℕ) (other : Stand W) → k < at → slice_get stands k ≡ Some other → test other ≡ false

-- the one there is the last of those that pass
pub record IsLastStand {W : Type 0} (test : Stand W → Bool) (stands : List (Stand W)) (at : ℕ) (stand : Stand W) : Type 0 where
  pub there : slice_get stands at ≡ Some stand
  pub passes : test stand ≡ true
  pub last : (k : ℕ) (other : Stand W) → at < k → slice_get stands k ≡ Some other → test other ≡ false

-- the one there isn't open any more, and this is what waited there
abbrev pub Removes : {W : Type 0} → ℕ → Pool W → Option W → Pool W → Type 0
Removes {W} at old waited new =
    (stand : Stand W) × (slice_get old.stands at ≡ Some stand) × (waited ≡ stand.waiting) × (new ≡ record old { stands = remove old.stands at })

-- the first of those that pass isn't open any more, and this is what waited there; none if none passes, and all stay open
abbrev pub EndsFirst : {W : Type 0} → (Stand W → Bool) → Pool W → Option W → Pool W → Type 0
EndsFirst {W} test old ended new =
    MatchOption ended (NonePasses test old.stands × (new ≡ old))
    (λ waited. (at : ℕ) × (stand : Stand W) × IsFirst test old.stands at stand × (stand.waiting ≡ Some waited) × (new ≡ record old { stands = remove old.stands at }))

-- the last of those that wait for this origin is in use from now on, by its number; none if none waits for it
abbrev pub TakesStand : {W : Type 0} → List ℕ → Pool W → Option (ℕ × W) → Pool W → Type 0
TakesStand {W} of old taken new =
    MatchOption taken (NonePasses (waits_for of) old.stands × (new ≡ old))
    (λ one. (at : ℕ) × (stand : Stand W) × IsLastStand (waits_for of) old.stands at stand × (stand.number ≡ one.0) × (stand.waiting ≡ Some one.1)
    × (new ≡ record old { stands = slice_set old.stands at (record stand { waiting = None }) }))

-- if a new one to this origin finds no room, of which so many may be open, one that waits goes for it: to this origin if that is full, else any
pub record MakesRoom {W : Type 0} (of : List ℕ) (most : ℕ) (old : Pool W) (ended : Option W) (new : Pool W) : Type 0 where
  pub full : most ≤ count_to old.stands of → EndsFirst (waits_for of) old ended new
  pub whole : count_to old.stands of < most → MOST ≤ length old.stands → EndsFirst waits old ended new
  pub room : count_to old.stands of < most → length old.stands < MOST → (ended ≡ None) × (new ≡ old)

-- one more to this origin may be open, of which so many may be, and there is a number for it
pub record HasStandRoom {W : Type 0} (of : List ℕ) (most : ℕ) (pool : Pool W) : Type 0 where
  pub origin : count_to pool.stands of < most
  pub whole : length pool.stands < MOST
  pub number : pool.entered + 1 < 2 ^ 64

-- if there is room, one more is open, in use, by the next number, which no other has; else nothing changed
abbrev pub AddsStand : {W : Type 0} → List ℕ → ℕ → Pool W → Option ℕ → Pool W → Type 0
AddsStand {W} of most old place new =
    MatchOption place (¬ HasStandRoom of most old × (new ≡ old))
    (λ number. HasStandRoom of most old × (number ≡ old.entered) × NonePasses (has_number number) old.stands
    × (new ≡ record { stands = old.stands ++ record { number = number; of = of; waiting = None } ∷ []; entered = old.entered + 1 }))

-- the one of this number waits from now on, and is the last to have been put down; if none has it, what was to wait comes back
abbrev pub PutsDown : {W : Type 0} → ℕ → W → Pool W → Option W → Pool W → Type 0
PutsDown {W} number waiting old back new =
    MatchOption back
    ((at : ℕ) × (stand : Stand W) × IsFirst (has_number number) old.stands at stand
    × (new ≡ record old { stands = remove old.stands at ++ record stand { waiting = Some waiting } ∷ [] }))
    (λ given. (given ≡ waiting) × NonePasses (has_number number) old.stands × (new ≡ old))

-- the one of this number isn't open any more, if one has it, and all others stay open
abbrev pub Leaves : {W : Type 0} → ℕ → Pool W → Pool W → Type 0
Leaves {W} number old new =
    (NonePasses (has_number number) old.stands × (new ≡ old))
    ⊎ ((at : ℕ) × (stand : Stand W) × IsFirst (has_number number) old.stands at stand × (new ≡ record old { stands = remove old.stands at }))

-- what a run keeps of connections: the open ones, and the origins whose servers sent bytes that nobody had requested
pub record Pooling (W : Type 0) : Type 0 where
  pub pool : Pool W
  pub unasked : List OriginText

-- the origin's server sent such bytes
abbrev pub has_unasked : {W : Type 0} → Pooling W → OriginText → Bool
has_unasked kept of = list_any (λ one. bytes_eq one of) kept.unasked

-- the last of those that wait for this origin is in use from now on; none, if its server sent such bytes
pub record TakesKept {W : Type 0} (of : OriginText) (old : Pooling W) (taken : Option (ℕ × W)) (new : Pooling W) : Type 0 where
  pub unasked : has_unasked old of ≡ true → (taken ≡ None) × (new ≡ old)
  pub known : has_unasked old of ≡ false → TakesStand of old.pool taken new.pool × (new.unasked ≡ old.unasked)

-- one more is open to this origin, if there is room for it; none, if its server sent such bytes
pub record EntersKept {W : Type 0} (of : OriginText) (most : ℕ) (old : Pooling W) (place : Option ℕ) (ended : Option W) (new : Pooling W) : Type 0 where
  pub unasked : has_unasked old of ≡ true → (place ≡ None) × (ended ≡ None) × (new ≡ old)
  pub known : has_unasked old of ≡ false → (left : Pool W) × MakesRoom of most old.pool ended left × AddsStand of most left place new.pool

-- the one of this number waits from now on; it comes back, if the server of its origin sent such bytes
pub record PutsKept {W : Type 0} (of : OriginText) (number : ℕ) (waiting : W) (old : Pooling W) (back : Option W) (new : Pooling W) : Type 0 where
  pub unasked : has_unasked old of ≡ true → (back ≡ Some waiting) × (new ≡ old)
  pub known : has_unasked old of ≡ false → PutsDown number waiting old.pool back new.pool × (new.unasked ≡ old.unasked)
