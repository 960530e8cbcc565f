-- Where a run writes its output.
use Rattle.std.specs.Prelude.{◌≡◌, ◌⊎◌, Bool, true, List, ℕ, Option, None, Result, Ok, Err}
use Rattle.options.specs.Listed.{are_quiet}
use Rattle.options.specs.Order.{Ordered, order_of, seeks_in}
use Rattle.options.specs.declared.fault.LineFault.{LineFault}

-- whether nothing is written, and the file that takes it, with whether that keeps what it has: as ordered; for refused words on the standard
-- streams, unless they say that nothing is to be printed
abbrev pub targets_by : List (List ℕ) → Result Ordered LineFault → Bool × Option (List ℕ × Bool)
targets_by words (Ok ordered) = (ordered.quiet, ordered.log)
targets_by words (Err why) = (are_quiet words, None)

-- the output goes there
abbrev pub GoesTo : Bool × Option (List ℕ × Bool) → Bool × Option (List ℕ × Bool) → Type 0
GoesTo targets place = targets ≡ place

-- the path of the file that takes the log of rejected links, if it is ordered
abbrev pub rejected_by : Result Ordered LineFault → Option (List ℕ)
rejected_by (Ok ordered) = ordered.rejected_log
rejected_by (Err why) = None

-- the output goes where the words say, or, if an expression would cost too much, where that of refused words goes
abbrev pub AreTargets : List (List ℕ) → Bool × Option (List ℕ × Bool) → Type 0
AreTargets words targets = (targets ≡ targets_by words (order_of words)) ⊎ ((seeks_in words ≡ true) × (targets ≡ (are_quiet words, None)))

-- likewise the path
abbrev pub IsRejectedPath : List (List ℕ) → Option (List ℕ) → Type 0
IsRejectedPath words path = (path ≡ rejected_by (order_of words)) ⊎ ((seeks_in words ≡ true) × (path ≡ None))
