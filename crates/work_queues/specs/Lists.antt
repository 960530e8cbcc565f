-- What the lists under an agenda represent, and what ties them together.
use Rattle.std.specs.Prelude.{◌≡◌, ◌<◌, ◌≤◌, ℕ, Bool, ◌&&◌, ◌==◌, List, [], map, take, length, slice_get, slice_index_or, Some, count_by, vec_len}
use Rattle.address.specs.Address.{OriginText}
use Rattle.work_queues.specs.Tasks.{Item, is_parked, is_waiting, is_out, is_due}
use Rattle.work_queues.specs.Queues.{Seat, IsPlaced, seats, numbers_of, queued_of}
use Rattle.work_queues.specs.Pools.{IsPool}
use Rattle.work_queues.specs.declared.lists.Job.{Job}
use Rattle.work_queues.specs.declared.lists.Lists.{Lists}
use Rattle.work_queues.specs.declared.pool.Pool.{Pool}

-- the texts of the origins
abbrev pub texts : List (OriginText × ℕ) → List OriginText
texts origins = map (λ entry. entry.0) origins

-- the text of the origin of that number, or none
abbrev pub key_at : List (OriginText × ℕ) → ℕ → OriginText
key_at origins origin = slice_index_or (texts origins) origin []

-- a job with its origin's text
abbrev pub item_of : List (OriginText × ℕ) → Job → Item
item_of origins job = record { origin = key_at origins job.origin; task = job.task }

-- the items by their numbers
abbrev pub items_of : Lists → List Item
items_of lists = map (item_of lists.origins.entries) lists.jobs.items

-- the origins that are in, by text
abbrev pub origins_in : List (OriginText × ℕ) → Pool → List OriginText
origins_in origins pool = map (key_at origins) (take (queued_of pool.origins.queues.items 0) (numbers_of pool.origins.queues.items 0))

-- the origins of which a number waits
abbrev pub waiting_of : Lists → List OriginText
waiting_of lists = origins_in lists.origins.entries lists.waiting

-- the origins of which a number is parked
abbrev pub parked_of : Lists → List OriginText
parked_of lists = origins_in lists.origins.entries lists.parked

-- the seat of a job among queues by origin
abbrev pub origin_seat : (Job → Bool) → Job → Seat
origin_seat test job = record { queue = job.origin; is_queued = test job }

-- how many permits are out of an origin
abbrev pub origin_out : List Job → ℕ → ℕ
origin_out jobs origin = count_by (λ job. is_out job.task && (job.origin == origin)) jobs

-- the seat of each number is that of its job, and each of so many origins has its queue
pub record IsSeated (here : Pool) (test : Job → Bool) (jobs : List Job) (count : ℕ) : Type 0 where
  pub pool : IsPool here
  pub seats : seats here.numbers ≡ map (origin_seat test) jobs
  pub origins : count ≤ vec_len here.numbers.queues

-- each list says the same of a number as its job
pub record AreListsKept (lists : Lists) : Type 0 where
  pub within : (number : ℕ) (job : Job) → slice_get lists.jobs.items number ≡ Some job → job.origin < length lists.origins.entries
  pub distinct : (a b : ℕ) → a < length lists.origins.entries → b < length lists.origins.entries → key_at lists.origins.entries a ≡ key_at lists.origins.entries b → a ≡ b
  pub out : (origin : ℕ) (entry : OriginText × ℕ) → slice_get lists.origins.entries origin ≡ Some entry → entry.1 ≡ origin_out lists.jobs.items origin
  pub waiting : IsSeated lists.waiting (λ job. is_waiting job.task) lists.jobs.items (length lists.origins.entries)
  pub parked : IsSeated lists.parked (λ job. is_parked job.task) lists.jobs.items (length lists.origins.entries)
  pub due_placed : IsPlaced lists.due
  pub due : seats lists.due ≡ map (λ job. record { queue = 0; is_queued = is_due job.task }) lists.jobs.items
  pub due_queue : vec_len lists.due.queues ≡ 1
