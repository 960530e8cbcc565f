use Rattle.std.proofs.Common.{arith}
use Rattle.std.specs.Prelude.{Contains}
use Rattle.workers.specs.declared.note.RulesNote.{RulesNote}
use Rattle.workers.specs.inner.Notes.{origins}
use Rattle.workers.proofs.ApartLaws.{apart_each}
use Rattle.workers.proofs.ComparisonLaws.{all_more}
use Rattle.workers.proofs.once.are_rules_apart.Goals as goal

pub loop-note-preserved : goal.loop-note-preserved
loop-note-preserved c =
    let P : RulesNote → Type 0 = λ note. ¬ Contains (origins c.args.others.now) note.origin in
    let here : P c.note-item.result = c.is_origin_noted.ensures.absent c.requires c.if-is_origin_noted.false in
    all_more P c.args.notes.now c.loop-note.note-index c.note-item.result c.loop-note-test.true c.note-item.is here c.loop-note.invariant

pub returns : goal.returns
returns c so = apart_each (λ (note : RulesNote). note.origin) c.args.notes.now (origins c.args.others.now) (λ k d lt. c.loop-note.invariant k d (omega arith))
