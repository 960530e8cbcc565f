use Rattle.std.proofs.Common.{ℕ, ◌<◌, get_or}
use Rattle.std.specs.Prelude.{Contains}
use Rattle.workers.specs.declared.note.PageNote.{PageNote}
use Rattle.workers.specs.inner.Notes.{addresses}
use Rattle.workers.proofs.once.are_pages_apart.Given as goal

abbrev pub invariant-loop-note : goal.invariant-loop-note
invariant-loop-note g l = (k : ℕ) (d : PageNote g.row.B.Denot) → k < l.note-index → ¬ Contains (addresses l.others) (get_or l.notes k d).address
