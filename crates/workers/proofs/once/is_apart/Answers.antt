-- Each turn looks at one seat; at the end all were looked at.
use Rattle.std.proofs.Common.{◌<◌, refl, arith, subst, sym}
use Rattle.std.proofs.lemmas.Bool.{false≢true}
use Rattle.workers.specs.declared.worker.Seat.{Seat}
use Rattle.workers.specs.inner.Apart.{AreInOrder, AreNotedApart}
use Rattle.workers.specs.inner.Notes.{addresses, origins}
use Rattle.workers.proofs.ApartLaws.{pages_apart_each, rules_apart_each}
use Rattle.workers.proofs.ComparisonLaws.{all_more}
use Rattle.workers.proofs.once.is_apart.Goals as goal

pub are_notes_apart-requires : goal.are_notes_apart-requires
are_notes_apart-requires g c = subst (λ (seat : Seat g.row.F.Denot g.row.B.Denot). AreInOrder seat.notes) (sym c.seat-item.is) (c.requires c.loop-seat.seat-index c.seat-item.result c.loop-seat-test.true)

pub loop-seat-preserved : goal.loop-seat-preserved
loop-seat-preserved g c =
    let notes = c.args.notes.now in
    all_more (λ (seat : Seat g.row.F.Denot g.row.B.Denot). AreNotedApart (addresses notes.pages.items) (addresses seat.notes.pages.items) × AreNotedApart (origins notes.rules.items) (origins seat.notes.rules.items))
    c.args.seats.now c.loop-seat.seat-index c.seat-item.result c.loop-seat-test.true c.seat-item.is (c.if-not-are_notes_apart.ensures.pages refl, c.if-not-are_notes_apart.ensures.rules refl) c.loop-seat.invariant

pub returns-then-not-are_notes_apart : goal.returns-then-not-are_notes_apart
returns-then-not-are_notes_apart g c = record {
  pages = λ so. absurd (false≢true so);
  rules = λ so. absurd (false≢true so);
}

pub returns : goal.returns
returns g c = record {
  pages = λ so. pages_apart_each (addresses c.args.notes.now.pages.items) c.args.seats.now (λ k d lt. (c.loop-seat.invariant k d (omega arith)).0);
  rules = λ so. rules_apart_each (origins c.args.notes.now.rules.items) c.args.seats.now (λ k d lt. (c.loop-seat.invariant k d (omega arith)).1);
}
