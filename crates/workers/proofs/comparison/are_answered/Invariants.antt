use Rattle.std.proofs.Common.{ℕ, ◌<◌, get_or}
use Rattle.std.specs.Prelude.{IsSome}
use Rattle.workers.specs.declared.note.PageNote.{PageNote}
use Rattle.workers.proofs.comparison.are_answered.Given as goal

abbrev pub invariant-loop-note : goal.invariant-loop-note
invariant-loop-note g l = (k : ℕ) (d : PageNote g.row.B.Denot) → k < l.note-index → IsSome (get_or l.notes k d).outcome
