-- What the parts of a run result in.
use Rattle.std.specs.Prelude.{◌≡◌, ◌⊎◌, ℕ, Bool, true, false, List, [], codes, Option}
use Rattle.std.specs.Io.KnownBytes.{Appends}
use Rattle.frontier_core.specs.declared.event.Event.{Event}
use Rattle.retriever.specs.Run.{fault_text, fault_status}
use Rattle.streams.specs.Streams.{AppendsFront}
use Rattle.retriever.specs.declared.fault.Fault.{Fault}

-- the writer gained the text and the status is this one, or the writer failed and the status is 1
abbrev pub IsDelivered : Option (List ℕ) → Option (List ℕ) → List ℕ → ℕ → ℕ → Type 0
IsDelivered old new text wanted status = ((status ≡ wanted) × Appends old new text) ⊎ ((status ≡ 1) × AppendsFront old new text)

-- the text of the fault is delivered with its status, or that for memory that ran out
abbrev pub IsFaultDelivered : Option (List ℕ) → Option (List ℕ) → Fault → ℕ → Type 0
IsFaultDelivered old new wrong status =
    IsDelivered old new (fault_text wrong) (fault_status wrong) status
    ⊎ IsDelivered old new (codes "stopped memory\n") 1 status

-- what is shown of a trace: all of it, or nothing
abbrev pub shown_of : Bool → List Event → List Event
shown_of true trace = trace
shown_of false trace = []
