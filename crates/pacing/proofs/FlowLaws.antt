-- Over any stretch of bookings the bytes are at most the rate times the time from the first of them to when the next read may begin.
use Rattle.std.proofs.Common.{◌≡◌, ◌∙◌, ◌≤◌, ◌<◌, ◌+◌, ◌-◌, ◌*◌, ◌%◌, ◌^◌, ℕ, List, [], ◌∷◌, max, min, arith, ap, add-mul, le-add_left, le_trans, le_of_mul-le-mul_right, mod-lt, mul-le-mul_right}
use Rattle.std.proofs.lemmas.Nat.{div-add-mod'}
use Rattle.pacing.specs.Flows.{Booking, FlowsAlong, bytes_of, time_of}

-- at their rate some bytes take no less than their time
pub enough : (rate bytes : ℕ) → 0 < rate → bytes * 1_000_000_000 ≤ time_of rate bytes * rate
enough rate bytes some =
    let all = bytes * 1_000_000_000 + (rate - 1) in
    let rest : all % rate < rate = mod-lt all some in
    let parts : time_of rate bytes * rate + all % rate ≡ all = div-add-mod' all rate in
    omega (arith, rest, parts, some)

-- one booking more in front
one_more : (rate bytes now old next new others : ℕ) → 0 < rate → next ≡ min (max now old + time_of rate bytes) (2 ^ 64 - 1) → others * 1_000_000_000 + next * rate ≤ new * rate → new < 2 ^ 64 - 1
    → (bytes + others) * 1_000_000_000 + max now old * rate ≤ new * rate
one_more rate bytes now old next new others some over rest below =
    let risen : next ≤ new = le_of_mul-le-mul_right (le_trans (le-add_left (next * rate) (others * 1_000_000_000)) rest) some in
    let exact : next ≡ max now old + time_of rate bytes = omega (arith, over, risen, below) in
    let product : next * rate ≡ max now old * rate + time_of rate bytes * rate = ap (λ n. n * rate) exact ∙ add-mul (max now old) (time_of rate bytes) rate in
    omega (arith, product, enough rate bytes some, rest)

-- as long as the clock has the nanoseconds, the bytes booked since some time are no more than the rate allows until the next read may begin
pub bounded : (rate : ℕ) (old : ℕ) (along : List Booking) (new : ℕ) → 0 < rate → FlowsAlong rate old along new → new < 2 ^ 64 - 1 → bytes_of along * 1_000_000_000 + old * rate ≤ new * rate
bounded rate old [] new some same below = omega (arith, ap (λ n. n * rate) same)
bounded rate old (booking ∷ later) new some (next, flows, rest) below =
    let below_first : old ≤ max booking.now old = omega arith in
    let more = one_more rate booking.bytes booking.now old next new (bytes_of later) some (flows.kept ∙ flows.over) (bounded rate next later new some rest below) below in
    omega (arith, more, mul-le-mul_right rate below_first)

-- the same from the moment of the first booking on
pub bounded_from : (rate : ℕ) (old : ℕ) (first : Booking) (later : List Booking) (new : ℕ) → 0 < rate → FlowsAlong rate old (first ∷ later) new → new < 2 ^ 64 - 1
    → bytes_of (first ∷ later) * 1_000_000_000 + max first.now old * rate ≤ new * rate
bounded_from rate old first later new some (next, flows, rest) below =
    one_more rate first.bytes first.now old next new (bytes_of later) some (flows.kept ∙ flows.over) (bounded rate next later new some rest below) below
