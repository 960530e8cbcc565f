use Rattle.std.proofs.Common.{◌≡◌, ◌≢◌, ◌-◌, set, Some, slice_get, nat_lt, false, sym, ap, ◌∙◌, arith}
use Rattle.std.proofs.lemmas.Bool.Decides.{nat_tests}
use Rattle.work_queues.specs.Queues.{Seat, numbers_of, queued_of, seats}
use Rattle.work_queues.proofs.QueueLaws.{queue_within, read, stands, inside, seat_is, set_kept}
use Rattle.work_queues.proofs.queues.Queues.remove.Goals as goal

pub queued-queued-requires-clause-queue : goal.queued-queued-requires-clause-queue
queued-queued-requires-clause-queue c =
    let at = read c.args.self.now.places.items c.args.number c.index.result.now (omega arith) c.index.ensures in
    let lt = queue_within c.args.self.now.queues.items c.index.result.now.queue c.index.result.now.place (inside c.args.self.now c.args.number c.index.result.now c.requires.placed at) in
    omega (arith, lt)

pub returns-then-place-queued-2-clause-seats : goal.returns-then-place-queued-2-clause-seats
returns-then-place-queued-2-clause-seats c = λ seat was.
    (let at = read c.args.self.now.places.items c.args.number c.index.result.now (omega arith) c.index.ensures in
    let is = seat_is c.args.self.now c.args.number seat c.index.result.now was at in
    let here = stands c.args.self.now c.args.number c.index.result.now c.requires.placed at in
    let count : queued_of c.exchange.new.self.queues.items c.index.result.now.queue - 1 ≡ c.queued-queued.result - 1 =
    ap (λ z. z - 1) (c.exchange.ensures.same.queued c.index.result.now.queue ∙ sym c.queued-queued.ensures.value) in
    let last : slice_get (numbers_of c.exchange.new.self.queues.items c.index.result.now.queue) (queued_of c.exchange.new.self.queues.items c.index.result.now.queue - 1) ≡ Some c.args.number =
    ap (λ z. slice_get (numbers_of c.exchange.new.self.queues.items c.index.result.now.queue) z) count ∙ c.exchange.ensures.moved ∙ here in
    c.settle.ensures.seats
    ∙ c.dismiss.ensures.seats c.args.number last
    ∙ ap (λ z. set z c.args.number (record { queue = c.index.result.now.queue; is_queued = false })) c.exchange.ensures.same.seats
    ∙ ap (λ z. set (seats c.args.self.now) c.args.number (record { queue = z; is_queued = false })) (sym (ap (λ (z : Seat). z.queue) is)))

pub returns-else-place-queued-2-clause-seats : goal.returns-else-place-queued-2-clause-seats
returns-else-place-queued-2-clause-seats c = λ seat was.
    (let at = read c.args.self.now.places.items c.args.number c.index.result.now (omega arith) c.index.ensures in
    let is = seat_is c.args.self.now c.args.number seat c.index.result.now was at in
    let here = stands c.args.self.now c.args.number c.index.result.now c.requires.placed at in
    let count : queued_of c.exchange.new.self.queues.items c.index.result.now.queue - 1 ≡ c.queued-queued.result - 1 =
    ap (λ z. z - 1) (c.exchange.ensures.same.queued c.index.result.now.queue ∙ sym c.queued-queued.ensures.value) in
    let last : slice_get (numbers_of c.exchange.new.self.queues.items c.index.result.now.queue) (queued_of c.exchange.new.self.queues.items c.index.result.now.queue - 1) ≡ Some c.args.number =
    ap (λ z. slice_get (numbers_of c.exchange.new.self.queues.items c.index.result.now.queue) z) count ∙ c.exchange.ensures.moved ∙ here in
    c.dismiss.ensures.seats c.args.number last
    ∙ ap (λ z. set z c.args.number (record { queue = c.index.result.now.queue; is_queued = false })) c.exchange.ensures.same.seats
    ∙ ap (λ z. set (seats c.args.self.now) c.args.number (record { queue = z; is_queued = false })) (sym (ap (λ (z : Seat). z.queue) is)))

pub returns-else-place-queued-clause-seats : goal.returns-else-place-queued-clause-seats
returns-else-place-queued-clause-seats c = λ seat was.
    (let at = read c.args.self.now.places.items c.args.number c.index.result.now (omega arith) c.index.ensures in
    let is = seat_is c.args.self.now c.args.number seat c.index.result.now was at in
    let no : nat_lt c.index.result.now.place (queued_of c.args.self.now.queues.items c.index.result.now.queue) ≡ false = grind (arith, nat_tests, c.queued-queued.ensures.value, c.if-place-queued.false) in
    let same : record { queue = seat.queue; is_queued = false } ≡ seat = ap (λ z. record { queue = seat.queue; is_queued = z }) (sym (ap (λ (z : Seat). z.is_queued) is ∙ no)) in
    sym (ap (λ z. set (seats c.args.self.now) c.args.number z) same ∙ set_kept (seats c.args.self.now) c.args.number seat was))

pub returns-then-place-queued-2-clause-elsewhere : goal.returns-then-place-queued-2-clause-elsewhere
returns-then-place-queued-2-clause-elsewhere c = λ seat was elsewhere differ.
    (let at = read c.args.self.now.places.items c.args.number c.index.result.now (omega arith) c.index.ensures in
    let is = seat_is c.args.self.now c.args.number seat c.index.result.now was at in
    let apart : elsewhere ≢ c.index.result.now.queue = λ h. differ (h ∙ sym (ap (λ (z : Seat). z.queue) is)) in
    c.settle.ensures.queued elsewhere ∙ c.dismiss.ensures.elsewhere elsewhere apart ∙ c.exchange.ensures.same.queued elsewhere)

pub returns-else-place-queued-2-clause-elsewhere : goal.returns-else-place-queued-2-clause-elsewhere
returns-else-place-queued-2-clause-elsewhere c = λ seat was elsewhere differ.
    (let at = read c.args.self.now.places.items c.args.number c.index.result.now (omega arith) c.index.ensures in
    let is = seat_is c.args.self.now c.args.number seat c.index.result.now was at in
    let apart : elsewhere ≢ c.index.result.now.queue = λ h. differ (h ∙ sym (ap (λ (z : Seat). z.queue) is)) in
    c.dismiss.ensures.elsewhere elsewhere apart ∙ c.exchange.ensures.same.queued elsewhere)
