-- How many lines are still owed a place in the trace.
use Rattle.std.specs.Prelude.{ℕ, ◌+◌, count_by, Bool, true, false, Option, Some, None}
use Rattle.frontier_core.specs.Machine.{State, Progress, Parked, Waiting, Out, Answered, Refused, OriginRules, Asked, Known, Worker, Nobody}
use Rattle.frontier_core.specs.declared.event.Cause.{Cause}

-- the address is out to a worker
abbrev pub is_out_to_worker : Progress → Bool
is_out_to_worker Parked = false
is_out_to_worker Waiting = false
is_out_to_worker (Out Nobody) = false
is_out_to_worker (Out (Worker worker)) = true
is_out_to_worker (Answered x offering) = false
is_out_to_worker Refused = false

-- how many addresses are out to workers
abbrev pub out_to_workers : State → ℕ
out_to_workers s = count_by (λ entry. is_out_to_worker entry.1.progress) s.entries

-- the rules are requested by a worker
abbrev pub is_asked : OriginRules → Bool
is_asked (Asked Nobody) = false
is_asked (Asked (Worker worker)) = true
is_asked (Known rules) = false

-- how many origins' rules are requested by workers
abbrev pub asked_by_workers : State → ℕ
asked_by_workers s = count_by (λ origin. is_asked origin.1) s.origins

-- one if nothing has stopped the frontier
abbrev pub stop_count : Option Cause → ℕ
stop_count None = 1
stop_count (Some cause) = 0

-- how many lines are still owed a place in the trace: the end of each permit, and the first stop
abbrev pub owed : State → ℕ
owed s = out_to_workers s + asked_by_workers s + stop_count s.cause
