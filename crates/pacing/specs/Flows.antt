-- How fast a run reads (GNU Wget manual, option `--limit-rate`).
use Rattle.std.specs.Prelude.{◌≡◌, ◌+◌, ◌-◌, ◌*◌, ◌/◌, ◌^◌, ℕ, List, [], ◌∷◌, max, min}

-- the nanoseconds that so many bytes take at so many bytes a second, rounded up
abbrev pub time_of : ℕ → ℕ → ℕ
time_of rate bytes = (bytes * 1_000_000_000 + (rate - 1)) / rate

-- bytes that were read by now take their time from now on, or from when the ones before them have taken theirs; when that is over is the time when the
-- next read may begin, if the clock has so many nanoseconds
pub record Flows (rate bytes now begins : ℕ) (old new : ℕ) : Type 0 where
  pub over : begins ≡ min (max now old + time_of rate bytes) (2 ^ 64 - 1)
  pub kept : new ≡ begins

-- bytes that were booked, when, and when the next read was let begin
pub record Booking : Type 0 where
  pub bytes : ℕ
  pub now : ℕ
  pub begins : ℕ

-- bookings one after another, at one rate
abbrev pub FlowsAlong : ℕ → ℕ → List Booking → ℕ → Type 0
FlowsAlong rate old [] new = old ≡ new
FlowsAlong rate old (booking ∷ later) new =
    (next : ℕ) × Flows rate booking.bytes booking.now booking.begins old next × FlowsAlong rate next later new

-- the bytes of all of them
abbrev pub bytes_of : List Booking → ℕ
bytes_of [] = 0
bytes_of (booking ∷ later) = booking.bytes + bytes_of later
