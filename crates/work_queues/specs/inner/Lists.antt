-- What proofs alone need beside `Lists`.
use Rattle.std.specs.Prelude.{◌<◌, ℕ, Bool, cond, vec_len, vec_capacity}
use Rattle.work_queues.specs.inner.Queues.{QueueHasRoom}
use Rattle.work_queues.specs.declared.lists.Lists.{Lists}

-- one if it is so
abbrev pub one : Bool → ℕ
one b = cond b 1 0

-- a number more of this origin takes no memory
pub record HasSpace (lists : Lists) (origin : ℕ) : Type 0 where
  pub jobs : vec_len lists.jobs < vec_capacity lists.jobs
  pub waiting : QueueHasRoom lists.waiting.numbers origin
  pub parked : QueueHasRoom lists.parked.numbers origin
  pub due : QueueHasRoom lists.due 0
