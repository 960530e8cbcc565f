-- Each turn counts the notes of one seat.
use Rattle.std.proofs.Common.{◌≡◌, ◌∙◌, length, vec_len, arith}
use Rattle.workers.proofs.MoveLaws.{piece_counted, all_counted}
use Rattle.workers.proofs.seats.count_pages.Goals as goal

pub loop-seat-preserved : goal.loop-seat-preserved
loop-seat-preserved g c =
    let at = c.loop-seat in
    let listed : vec_len c.seat-item.result.notes.pages ≡ length c.seat-item.result.notes.pages.items = omega arith in
    piece_counted c.args.seats.now at.seat-index c.seat-item.result (λ seat. seat.notes.pages.items) at.count c.len.result c.in_ok-count.count _ c.loop-seat-test.true c.seat-item.is (c.len.ensures ∙ listed) c.in_ok-count.ensures.1
    at.invariant

pub loop-seat-init : goal.loop-seat-init
loop-seat-init g c = omega arith

pub returns : goal.returns
returns g c = all_counted c.args.seats.now c.loop-seat.seat-index (λ seat. seat.notes.pages.items) c.loop-seat.count _ (omega arith) c.loop-seat.invariant
