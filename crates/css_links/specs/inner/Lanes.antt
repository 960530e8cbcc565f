-- What the lanes of a vector of 32 bytes say of bytes.
use Rattle.std.specs.Prelude.{◌≡◌, ℕ, ◌<◌, Bool, false, List, length, slice_index}

-- There are 32 lanes, and the lane of each of these bytes that stops is set, by its top bit.
pub record Covers (stops : ℕ → Bool) (bytes lanes : List ℕ) : Type 0 where
  pub long : length lanes ≡ 32
  pub each : (k : ℕ) → k < 32 → slice_index lanes k < 128 → stops (slice_index bytes k) ≡ false
