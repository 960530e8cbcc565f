-- Exit statuses (GNU Wget manual, Exit Status): the lowest that holds.
use Rattle.std.specs.Prelude.{ℕ, Bool, true, false, List, Option, Some, None, if◌then◌else◌}
use Rattle.std.specs.List.{list_any, filter_map}
use Rattle.fetcher.specs.FaultWords.{class_of}
use Rattle.fetcher.specs.Outcomes.{is_fault}
use Rattle.fetcher.specs.declared.fault_kind.FaultClass.{FaultClass}
use Rattle.fetcher.specs.declared.fault_kind.FaultClass.TheVariants.{Network, Protocol}
use Rattle.fetcher.specs.declared.outcome.Outcome.{Outcome}
use Rattle.fetcher.specs.declared.outcome.Outcome.TheVariants.{Page, Moved, Leaf, Fault}
use Rattle.report.specs.Report.{Line, Fate, Asked, Refused, is_failed}

-- the class is that of the network's faults: nobody took the connection, or it was lost
abbrev pub is_network : FaultClass → Bool
is_network Network = true
is_network Protocol = false

-- a fault of the network
abbrev pub is_network_fault : Outcome → Bool
is_network_fault (Page status edges) = false
is_network_fault (Moved status target) = false
is_network_fault (Leaf status) = false
is_network_fault (Fault kind) = is_network (class_of kind)

-- the exit status of these outcomes: 4 for a fault of the network, else 7 for any other fault (of the protocol), else 8
-- for a status of 400 or more, else 0
abbrev pub exit_status : List Outcome → ℕ
exit_status outcomes =
    if list_any is_network_fault outcomes then 4
    else (if list_any is_fault outcomes then 7
    else (if list_any is_failed outcomes then 8 else 0))

-- the outcome of an address, if it was requested
abbrev pub outcome_of : Fate → Option Outcome
outcome_of (Asked x) = Some x
outcome_of Refused = None

-- the outcomes that lines contain, in their order
abbrev pub outcomes_in : List Line → List Outcome
outcomes_in lines = filter_map (λ line. outcome_of line.fate) lines
