use Rattle.std.proofs.Common.{arith, rules}
use Rattle.std.specs.Prelude.{IsSome}
use Rattle.workers.specs.declared.note.PageNote.{PageNote}
use Rattle.workers.proofs.ComparisonLaws.{all_more}
use Rattle.workers.proofs.comparison.are_answered.Goals as goal

pub loop-note-preserved : goal.loop-note-preserved
loop-note-preserved g c =
    let P : PageNote g.row.B.Denot → Type 0 = λ note. IsSome note.outcome in
    let here : P c.note-item.result = search rules in
    all_more P c.args.notes.now c.loop-note.note-index c.note-item.result c.loop-note-test.true c.note-item.is here c.loop-note.invariant

pub returns : goal.returns
returns g c so k d lt = c.loop-note.invariant k d (omega arith)
