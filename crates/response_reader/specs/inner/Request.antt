-- What proofs alone need beside `Request`.
use Rattle.std.specs.Prelude.{◌≡◌, ℕ, IsTrue}
use Rattle.std.specs.Io.KnownBytes.{Keeps}
use Rattle.response_reader.specs.Wire.{HasRisen, counted}
use Rattle.streams.specs.declared.interruption.TheConstants.{MAX_INTERRUPTED}
use Rattle.response_reader.specs.inner.Wire.{IsAllInterrupted, Tally}

-- writes that gave up: a call failed, without `Failed` there were as many interruptions as may be, and nothing was read
pub record WritesGiveUp (old new : Tally) : Type 0 where
  pub risen : (base : ℕ) → IsAllInterrupted base old → HasRisen base new.failed
  pub only : IsTrue old.unfailing → (base : ℕ) → IsAllInterrupted base old → new.failed ≡ counted base MAX_INTERRUPTED
  pub unfailing : IsTrue old.unfailing → IsTrue new.unfailing
  pub unerring : IsTrue old.unerring → IsTrue new.unerring
  pub kept : Keeps old.kept new.kept
