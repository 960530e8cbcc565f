-- What proofs alone need beside `Systems`.
use Rattle.std.specs.Prelude.{◌≡◌, ◌&&◌, ℕ, Bool, is_none, List, All, Option, length, map}
use Rattle.options.specs.declared.order.Order.{Order}
use Rattle.site_records.specs.RecordSites.{RecordValue}
use Rattle.site_records.specs.Resumption.{Resuming}
use Rattle.retriever.specs.Saving.{resuming_of}
use Rattle.retriever.specs.Systems.{Means, settings_of}

-- an order with these neither resumes nor saves
abbrev pub is_plain : Option (List ℕ) → Option (List ℕ) → Bool
is_plain resume save = is_none resume && is_none save

module _ {S B F K D V O : Type 0} (m : Means S B F K D V O) (order : Order) where
  -- these fetchers ask such ones as the system makes for the order, with notes or without, for what is recorded
  pub record AreResuming (is_recording : Bool) (recorded : RecordValue) (all : List (Resuming K)) : Type 0 where
    pub fetchers : List K
    pub made : All (m.gives.makes_recorder m.system (settings_of order is_recording)) fetchers
    pub count : length fetchers ≡ order.workers
    pub are : all ≡ map (resuming_of m.recorders.log recorded) fetchers
