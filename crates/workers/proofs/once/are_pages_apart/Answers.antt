use Rattle.std.proofs.Common.{arith}
use Rattle.std.specs.Prelude.{Contains}
use Rattle.workers.specs.declared.note.PageNote.{PageNote}
use Rattle.workers.specs.inner.Notes.{addresses}
use Rattle.workers.proofs.ApartLaws.{apart_each}
use Rattle.workers.proofs.ComparisonLaws.{all_more}
use Rattle.workers.proofs.once.are_pages_apart.Goals as goal

pub loop-note-preserved : goal.loop-note-preserved
loop-note-preserved g c =
    let P : PageNote g.row.B.Denot → Type 0 = λ note. ¬ Contains (addresses c.args.others.now) note.address in
    let here : P c.note-item.result = c.is_noted.ensures.absent c.requires c.if-is_noted.false in
    all_more P c.args.notes.now c.loop-note.note-index c.note-item.result c.loop-note-test.true c.note-item.is here c.loop-note.invariant

pub returns : goal.returns
returns g c so = apart_each (λ (note : PageNote g.row.B.Denot). note.address) c.args.notes.now (addresses c.args.others.now) (λ k d lt. c.loop-note.invariant k d (omega arith))
