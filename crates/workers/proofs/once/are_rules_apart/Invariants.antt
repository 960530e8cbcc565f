use Rattle.std.proofs.Common.{ℕ, ◌<◌, get_or}
use Rattle.std.specs.Prelude.{Contains}
use Rattle.workers.specs.declared.note.RulesNote.{RulesNote}
use Rattle.workers.specs.inner.Notes.{origins}
use Rattle.workers.proofs.once.are_rules_apart.Given as goal

abbrev pub invariant-loop-note : goal.invariant-loop-note
invariant-loop-note l = (k : ℕ) (d : RulesNote) → k < l.note-index → ¬ Contains (origins l.others) (get_or l.notes k d).origin
