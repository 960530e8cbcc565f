-- Numbers by origin, and the origins that have one that is in.
use Rattle.std.specs.Prelude.{◌≡◌, ◌<◌, ℕ, nat_lt, length, slice_get, Some, vec_len}
use Rattle.work_queues.specs.Queues.{IsPlaced, seats, queued_of}
use Rattle.work_queues.specs.declared.pool.Pool.{Pool}

-- an origin is in the one queue of origins if a number of it is in
pub record IsPool (pool : Pool) : Type 0 where
  pub numbers : IsPlaced pool.numbers
  pub origins : IsPlaced pool.origins
  pub one : vec_len pool.origins.queues ≡ 1
  pub len : length (seats pool.origins) ≡ vec_len pool.numbers.queues
  pub some : (origin : ℕ) → origin < vec_len pool.numbers.queues
      → slice_get (seats pool.origins) origin ≡ Some (record { queue = 0; is_queued = nat_lt 0 (queued_of pool.numbers.queues.items origin) })
