-- What is left to do for each number, in order of the numbers.
use Rattle.std.specs.Prelude.{ℕ, Bool, true, false, ◌&&◌, List, count_by}
use Rattle.std.specs.Str.{bytes_eq}
use Rattle.address.specs.Address.{OriginText}
use Rattle.work_queues.specs.declared.task.Task.{Task}
use Rattle.work_queues.specs.declared.task.Task.TheVariants.{Parked, Waiting, Out, Due, Done}

-- a number's origin, and what is left to do for it
pub record Item : Type 0 where
  pub origin : OriginText
  pub task : Task

-- the items by their numbers, and the origins of which a number waits or is parked
pub record Listing : Type 0 where
  pub items : List Item
  pub waiting : List OriginText
  pub parked : List OriginText

-- its origin's rules have to be known first
abbrev pub is_parked : Task → Bool
is_parked Parked = true
is_parked Waiting = false
is_parked Out = false
is_parked Due = false
is_parked Done = false

-- a permit is to be given for it
abbrev pub is_waiting : Task → Bool
is_waiting Parked = false
is_waiting Waiting = true
is_waiting Out = false
is_waiting Due = false
is_waiting Done = false

-- a permit is out for it
abbrev pub is_out : Task → Bool
is_out Parked = false
is_out Waiting = false
is_out Out = true
is_out Due = false
is_out Done = false

-- it is to be spread
abbrev pub is_due : Task → Bool
is_due Parked = false
is_due Waiting = false
is_due Out = false
is_due Due = true
is_due Done = false

-- how many permits are out of the origin
abbrev pub out_count : List Item → OriginText → ℕ
out_count items origin = count_by (λ item. is_out item.task && bytes_eq item.origin origin) items
