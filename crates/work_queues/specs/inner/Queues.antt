-- What proofs alone need beside `Queues`.
use Rattle.std.specs.Prelude.{◌≡◌, ◌<◌, ℕ, length, slice_get, IfSome, vec_len, vec_capacity}
use Rattle.work_queues.specs.declared.queues.Queues.{Queues}
use Rattle.work_queues.specs.Queues.{numbers_of, queued_of, seats, IsPlaced}

-- members changed places within their queues, and no seat changed
pub record IsRearranged (old new : Queues) : Type 0 where
  pub placed : IsPlaced new
  pub seats : seats new ≡ seats old
  pub queued : (queue : ℕ) → queued_of new.queues.items queue ≡ queued_of old.queues.items queue
  pub len : (queue : ℕ) → length (numbers_of new.queues.items queue) ≡ length (numbers_of old.queues.items queue)
  pub queues : vec_len new.queues ≡ vec_len old.queues
  pub places : vec_len new.places ≡ vec_len old.places

-- a number more of this queue takes no memory
pub record QueueHasRoom (queues : Queues) (queue : ℕ) : Type 0 where
  pub places : vec_len queues.places < vec_capacity queues.places
  pub members : IfSome (slice_get queues.queues.items queue) (λ here. vec_len here.members < vec_capacity here.members)
  pub within : queue < vec_len queues.queues
