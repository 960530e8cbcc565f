-- When the next request to an origin may begin.
use Rattle.std.specs.Prelude.{◌≡◌, ◌⊎◌, ◌+◌, ◌-◌, ◌^◌, ℕ, false, List, [], ◌∷◌, bytes_eq, max, min, unwrap_or}
use Rattle.std.specs.Map.{lookup}
use Rattle.address.specs.Address.{OriginText}
use Rattle.pacing.specs.declared.turns.OriginTurn.{OriginTurn}

-- for each origin, when the last request to it began, the time before which no further one may, and the least pause between two
abbrev pub TurnsValue : Type 0
TurnsValue = List (OriginText × OriginTurn)

-- what is known of the requests to an origin; at first none has begun, and one may
abbrev pub known_of : TurnsValue → OriginText → OriginTurn
known_of turns of = unwrap_or (lookup (bytes_eq of) turns) (record { begun = 0; next = 0; least = 0 })

-- the time before which no request to an origin may begin
abbrev pub turn_of : TurnsValue → OriginText → ℕ
turn_of turns of = (known_of turns of).next

-- when the last request to an origin began
abbrev pub begun_of : TurnsValue → OriginText → ℕ
begun_of turns of = (known_of turns of).begun

-- the least pause between the beginnings of two requests to an origin
abbrev pub least_of : TurnsValue → OriginText → ℕ
least_of turns of = (known_of turns of).least

-- of all but one origin the same is known as before
abbrev pub SparesOthers : OriginText → TurnsValue → TurnsValue → Type 0
SparesOthers of old new = (other : OriginText) → bytes_eq of other ≡ false → known_of new other ≡ known_of old other

-- this time, if the clock has so many nanoseconds
abbrev pub shown : ℕ → ℕ
shown time = min time (2 ^ 64 - 1)

-- a request to an origin that could begin now begins then, and no later than need be; the next begins after a pause, which is the least one of the
-- origin or longer
pub record Books (of : OriginText) (now pause begins : ℕ) (old new : TurnsValue) : Type 0 where
  pub first : begins ≡ max now (turn_of old of)
  pub next : turn_of new of ≡ shown (begins + max pause (least_of old of))
  pub begun : begun_of new of ≡ begins
  pub least : least_of new of ≡ least_of old of
  pub others : SparesOthers of old new

-- an origin is left alone until then, or longer
pub record Holds (of : OriginText) (until : ℕ) (old new : TurnsValue) : Type 0 where
  pub next : turn_of new of ≡ max until (turn_of old of)
  pub begun : begun_of new of ≡ begun_of old of
  pub least : least_of new of ≡ least_of old of
  pub others : SparesOthers of old new

-- from the last request on, so much time at least passes between the beginnings of two requests to an origin
pub record Spaces (of : OriginText) (delay : ℕ) (old new : TurnsValue) : Type 0 where
  pub next : turn_of new of ≡ max (shown (begun_of old of + delay)) (turn_of old of)
  pub begun : begun_of new of ≡ begun_of old of
  pub least : least_of new of ≡ delay
  pub others : SparesOthers of old new

-- turns became others by one call, or by several, one after another
abbrev pub AreCalled : TurnsValue → TurnsValue → Type 0
AreCalled old new =
    ((of : OriginText) × (now : ℕ) × (pause : ℕ) × (begins : ℕ) × Books of now pause begins old new)
    ⊎ ((of : OriginText) × (until : ℕ) × Holds of until old new)
    ⊎ ((of : OriginText) × (delay : ℕ) × Spaces of delay old new)

abbrev pub AreCalledAlong : TurnsValue → List TurnsValue → TurnsValue → Type 0
AreCalledAlong old [] new = old ≡ new
AreCalledAlong old (next ∷ later) new = AreCalled old next × AreCalledAlong next later new
