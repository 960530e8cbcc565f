-- How much waits: what is left to do, except what is out to workers.
use Rattle.std.specs.Prelude.{ℕ, ◌+◌, Bool, true, false, count_by}
use Rattle.frontier_core.specs.Machine.{State, Progress, Parked, Waiting, Out, Answered, Refused, Due, Offered, OriginRules, Asked, Known, Worker, Nobody}

-- the address is parked, waiting or due, or was given up
abbrev pub is_put_off : Progress → Bool
is_put_off Parked = true
is_put_off Waiting = true
is_put_off (Out (Worker worker)) = false
is_put_off (Out Nobody) = true
is_put_off (Answered x Due) = true
is_put_off (Answered x Offered) = false
is_put_off Refused = false

-- the rules were requested and given up
abbrev pub are_given_up : OriginRules → Bool
are_given_up (Asked (Worker worker)) = false
are_given_up (Asked Nobody) = true
are_given_up (Known rules) = false

-- how many addresses are parked, waiting, due or given up, and of how many origins the rules were given up
abbrev pub how_many_wait : State → ℕ
how_many_wait s = count_by (λ entry. is_put_off entry.1.progress) s.entries + count_by (λ origin. are_given_up origin.1) s.origins
