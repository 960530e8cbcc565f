-- Two requests to one origin begin apart by the first one's pause, and by the origin's least pause, whatever is called between them.
use Rattle.std.proofs.Common.{◌≡◌, ◌≤◌, ◌+◌, ℕ, Bool, true, false, List, [], ◌∷◌, max, bytes_eq, arith, ap, refl, subst, ⊎_elim}
use Rattle.std.proofs.lemmas.Slice.Eq.{bytes_eq-Decides}
use Rattle.address.specs.Address.{OriginText}
use Rattle.pacing.specs.declared.turns.OriginTurn.{OriginTurn}
use Rattle.pacing.specs.Turns.{AreCalled, AreCalledAlong, Books, Spaces, SparesOthers, TurnsValue, begun_of, least_of, shown, turn_of}

-- the time of an origin doesn't fall, if it doesn't fall for the one that was called for
spared : (of other : OriginText) (old new : TurnsValue) → SparesOthers of old new → shown (turn_of old of) ≤ turn_of new of → shown (turn_of old other) ≤ turn_of new other
spared of other old new spares rises = go (bytes_eq of other) refl
  where
    go : (b : Bool) → bytes_eq of other ≡ b → shown (turn_of old other) ≤ turn_of new other
    go true is = subst (λ o. shown (turn_of old o) ≤ turn_of new o) ((bytes_eq-Decides of other).0 is) rises
    go false is = let same : turn_of new other ≡ turn_of old other = ap (λ (t : OriginTurn). t.next) (spares other is) in omega (arith, same)

-- no call lets an origin be requested from earlier
pub rises : (other : OriginText) (old new : TurnsValue) → AreCalled old new → shown (turn_of old other) ≤ turn_of new other
rises other old new called = ⊎_elim
    (λ booked. let books = booked.4 in spared booked.0 other old new books.others (omega (arith, books.first, books.next)))
    (λ later. ⊎_elim
    (λ held. let holds = held.2 in spared held.0 other old new holds.others (omega (arith, holds.next)))
    (λ spaced. let spaces = spaced.2 in spared spaced.0 other old new spaces.others (omega (arith, spaces.next)))
    later)
    called

pub rises_along : (other : OriginText) (old : TurnsValue) (along : List TurnsValue) (new : TurnsValue) → AreCalledAlong old along new → shown (turn_of old other) ≤ turn_of new other
rises_along other old [] new same = omega (arith, ap (λ t. turn_of t other) same)
rises_along other old (next ∷ later) new called = omega (arith, rises other old next called.0, rises_along other next later new called.1)

-- a request begins no earlier than an earlier one to its origin and its pause, or the least one of the origin, whatever was called between them
pub apart : (of : OriginText) (now pause begins now' pause' begins' : ℕ) (old booked : TurnsValue) (along : List TurnsValue) (late new : TurnsValue)
    → Books of now pause begins old booked → AreCalledAlong booked along late → Books of now' pause' begins' late new
    → shown (begins + max pause (least_of old of)) ≤ begins'
apart of now pause begins now' pause' begins' old booked along late new first between second =
    omega (arith, first.next, rises_along of booked along late between, second.first)

-- nor earlier than the request that was last when the least pause was said, and that pause
pub spaced_apart : (of : OriginText) (delay now' pause' begins' : ℕ) (old spaced : TurnsValue) (along : List TurnsValue) (late new : TurnsValue)
    → Spaces of delay old spaced → AreCalledAlong spaced along late → Books of now' pause' begins' late new
    → shown (begun_of old of + delay) ≤ begins'
spaced_apart of delay now' pause' begins' old spaced along late new said between second =
    omega (arith, said.next, rises_along of spaced along late between, second.first)
