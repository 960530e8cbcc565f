-- What keeps a pool one.
use Rattle.std.proofs.Common.{◌≡◌, ◌≢◌, ◌<◌, ◌+◌, ℕ, Bool, false, [], ◌∷◌, ◌++◌, set, length, Some, nat_lt, sym, ap, ◌∙◌, arith}
use Rattle.std.specs.Prelude.{slice_get, vec_len}
use Rattle.std.proofs.Common.{length-append}
use Rattle.std.proofs.lemmas.List.{length-set}
use Rattle.work_queues.specs.Queues.{Seat, IsPlaced, queued_of, seats}
use Rattle.work_queues.specs.Pools.{IsPool}
use Rattle.work_queues.specs.declared.pool.Pool.{Pool}
use Rattle.work_queues.proofs.QueueLaws.{equal, unequal, compare_numbers, get-set_same, get-set_other, queued_past}
use Rattle.work_queues.proofs.Additions.{get-append, get-append_last}

-- the seat of an origin by whether a number of it is in
abbrev origin_seat : Bool → Seat
origin_seat is = record { queue = 0; is_queued = is }

pub pool_put : (old new : Pool) (origin : ℕ) (is : Bool) → IsPool old → IsPlaced new.numbers → IsPlaced new.origins → vec_len new.origins.queues ≡ vec_len old.origins.queues
    → vec_len new.numbers.queues ≡ vec_len old.numbers.queues → origin < vec_len old.numbers.queues
    → seats new.origins ≡ set (seats old.origins) origin (record { queue = 0; is_queued = is }) → nat_lt 0 (queued_of new.numbers.queues.items origin) ≡ is
    → ((other : ℕ) → other ≢ origin → queued_of new.numbers.queues.items other ≡ queued_of old.numbers.queues.items other) → IsPool new
pool_put old new origin is pool numbers origins one count lt changed here elsewhere =
    record { numbers = numbers; origins = origins; one = one ∙ pool.one; len = ap (λ z. length z) changed ∙ simp length-set (pool.len ∙ sym count); some = some }
  where
    some : (other : ℕ) → other < vec_len new.numbers.queues → slice_get (seats new.origins) other ≡ Some (origin_seat (nat_lt 0 (queued_of new.numbers.queues.items other)))
    some other within =
        let within_old : other < vec_len old.numbers.queues = omega (arith, within, count) in
        let long = pool.len in
        let seated : origin < length (seats old.origins) = omega (arith, lt, long) in
        elim (compare_numbers other origin) [
          | equal h ↦ ap (λ z. slice_get z other) changed
              ∙ ap (λ z. slice_get (set (seats old.origins) origin (origin_seat is)) z) h
              ∙ get-set_same (seats old.origins) origin (origin_seat is) seated
              ∙ ap (λ z. Some (origin_seat z)) (sym here)
              ∙ ap (λ z. Some (origin_seat (nat_lt 0 (queued_of new.numbers.queues.items z)))) (sym h)
          | unequal h ↦ ap (λ z. slice_get z other) changed
              ∙ get-set_other (seats old.origins) origin other (origin_seat is) h
              ∙ pool.some other within_old
              ∙ ap (λ z. Some (origin_seat (nat_lt 0 z))) (sym (elsewhere other h))
        ]

pub pool_open : (old new : Pool) → IsPool old → IsPlaced new.numbers → IsPlaced new.origins → vec_len new.origins.queues ≡ vec_len old.origins.queues
    → vec_len new.numbers.queues ≡ vec_len old.numbers.queues + 1 → seats new.origins ≡ seats old.origins ++ record { queue = 0; is_queued = false } ∷ []
    → ((queue : ℕ) → queued_of new.numbers.queues.items queue ≡ queued_of old.numbers.queues.items queue) → IsPool new
pool_open old new pool numbers origins one count added same =
    record { numbers = numbers; origins = origins; one = one ∙ pool.one; len = lens; some = some }
  where
    lens : length (seats new.origins) ≡ vec_len new.numbers.queues
    lens = let long = pool.len in let more : length (seats new.origins) ≡ length (seats old.origins) + 1 = ap (λ z. length z) added ∙ simp length-append (omega arith) in omega (arith, long, more, count)

    some : (other : ℕ) → other < vec_len new.numbers.queues → slice_get (seats new.origins) other ≡ Some (origin_seat (nat_lt 0 (queued_of new.numbers.queues.items other)))
    some other within =
        let long = pool.len in
        elim (compare_numbers other (length (seats old.origins))) [
          | equal h ↦
              (let empty : queued_of old.numbers.queues.items other ≡ 0 = queued_past old.numbers.queues.items other (omega (arith, h, long)) in
              ap (λ z. slice_get z other) added
              ∙ ap (λ z. slice_get (seats old.origins ++ origin_seat false ∷ []) z) h
              ∙ get-append_last (seats old.origins) (origin_seat false)
              ∙ ap (λ z. Some (origin_seat (nat_lt 0 z))) (sym (same other ∙ empty)))
          | unequal h ↦
              (let within_old : other < vec_len old.numbers.queues = omega (arith, within, count, h, long) in
              ap (λ z. slice_get z other) added
              ∙ get-append (seats old.origins) (origin_seat false) other (origin_seat (nat_lt 0 (queued_of old.numbers.queues.items other))) (pool.some other within_old)
              ∙ ap (λ z. Some (origin_seat (nat_lt 0 z))) (sym (same other)))
        ]
