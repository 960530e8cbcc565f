-- What proofs alone need beside `Wire`.
use Rattle.std.specs.Prelude.{Bool, IsTrue, ◌≡◌, ℕ, ◌<◌, List, Option}
use Rattle.std.specs.Io.KnownBytes.{Keeps}
use Rattle.streams.specs.declared.interruption.TheConstants.{MAX_INTERRUPTED}
use Rattle.response_reader.specs.Wire.{counted, HasRisen}

-- how reads of a response, or writes of a request, went so far: how many calls failed, how many of these
-- were interrupted, that no such call answers `Failed`, that no read answers an error, the bytes that the
-- calls keep (reads those that were written, writes those that are to be read), and whether a call answered `Failed`
pub record Tally : Type 0 where
  pub failed : ℕ
  pub interrupted : ℕ
  pub unfailing : Bool
  pub unerring : Bool
  pub kept : Option (List ℕ)
  pub lost : Bool

-- the same, by the members of a wire
abbrev pub tally : ℕ → Bool → Bool → Option (List ℕ) → Bool → ℕ → Tally
tally failed unfailing unerring kept lost interrupted =
    record { failed = failed; interrupted = interrupted; unfailing = unfailing; unerring = unerring; kept = kept; lost = lost }

-- of the calls that failed, all were interrupted reads, given that base had failed before the response
abbrev pub IsAllInterrupted : ℕ → Tally → Type 0
IsAllInterrupted base t = t.failed ≡ counted base t.interrupted

-- calls in between that didn't give up, of which none answered `Failed`
pub record GoesOn (old new : Tally) : Type 0 where
  pub all : (base : ℕ) → IsAllInterrupted base old → IsAllInterrupted base new
  pub unfailing : IsTrue old.unfailing → IsTrue new.unfailing
  pub unerring : IsTrue old.unerring → IsTrue new.unerring
  pub kept : Keeps old.kept new.kept
  pub lost : new.lost ≡ old.lost
  pub few : old.interrupted < MAX_INTERRUPTED → new.interrupted < MAX_INTERRUPTED

-- reads that gave up: a call failed, and without `Failed` there were as many interruptions as may be
pub record GivesUp (old new : Tally) : Type 0 where
  pub risen : (base : ℕ) → IsAllInterrupted base old → HasRisen base new.failed
  pub only : IsTrue old.unfailing → (base : ℕ) → IsAllInterrupted base old → new.failed ≡ counted base MAX_INTERRUPTED
  pub erred : IsTrue old.unerring → ⊥
  pub kept : Keeps old.kept new.kept
