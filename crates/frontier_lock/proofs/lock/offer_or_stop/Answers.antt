use Rattle.std.proofs.Common.{inl, inr, refl}
use Rattle.frontier_lock.proofs.Waits.{short_of}
use Rattle.frontier_lock.proofs.lock.offer_or_stop.Goals as goal

pub returns-in-Err-Full : goal.returns-in-Err-Full
returns-in-Err-Full c =
    let full = (rw c.in-Err-Full.field-0-is at c.in-Err-Full.ensures.full) refl in
    inr (inl (c.spread.new.self, full.0, full.1, c.stop.ensures.stops))

pub returns-in-Err-Memory : goal.returns-in-Err-Memory
returns-in-Err-Memory c =
    let part = (rw c.in-Err-Memory.field-0-is at c.in-Err-Memory.ensures.memory) refl in
    let space = (rw c.in-Err-Memory.field-0-is at c.in-Err-Memory.ensures.space) refl in
    inr (inr (c.spread.new.self, short_of c.args.core.now c.spread.new.self part space, c.stop-in-Err-Memory.ensures.stops))
