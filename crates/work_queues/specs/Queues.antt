-- Queues of numbers: each number belongs to one queue, and is in it or not.
use Rattle.std.specs.Prelude.{◌≡◌, ◌≤◌, ℕ, zero, suc, nat_lt, Bool, List, [], ◌∷◌, map, length, slice_get, Some}
use Rattle.work_queues.specs.declared.queues.Queue.{Queue}
use Rattle.work_queues.specs.declared.queues.Position.{Position}
use Rattle.work_queues.specs.declared.queues.Queues.{Queues}

-- the numbers that belong to a queue, by their places in it
abbrev pub numbers_of : List Queue → ℕ → List ℕ
numbers_of [] queue = []
numbers_of (first ∷ others) zero = map (λ member. member.number) first.members.items
numbers_of (first ∷ others) (suc queue) = numbers_of others queue

-- how many of its members are in the queue
abbrev pub queued_of : List Queue → ℕ → ℕ
queued_of [] queue = 0
queued_of (first ∷ others) zero = first.queued
queued_of (first ∷ others) (suc queue) = queued_of others queue

-- what is known of a number: the queue that it belongs to, and whether it is in it
pub record Seat : Type 0 where
  pub queue : ℕ
  pub is_queued : Bool

-- the seat of the number at this place
abbrev pub seat_of : List Queue → Position → Seat
seat_of queues place = record { queue = place.queue; is_queued = nat_lt place.place (queued_of queues place.queue) }

-- the seats of all numbers
abbrev pub seats : Queues → List Seat
seats queues = map (seat_of queues.queues.items) queues.places.items

-- a number is where its place says, and nowhere else
pub record IsPlaced (queues : Queues) : Type 0 where
  pub found : (queue place number : ℕ) → slice_get (numbers_of queues.queues.items queue) place ≡ Some number
      → slice_get queues.places.items number ≡ Some (record { queue = queue; place = place })
  pub held : (number : ℕ) (place : Position) → slice_get queues.places.items number ≡ Some place
      → slice_get (numbers_of queues.queues.items place.queue) place.place ≡ Some number
  pub within : (queue : ℕ) → queued_of queues.queues.items queue ≤ length (numbers_of queues.queues.items queue)
