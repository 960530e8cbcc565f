use Rattle.std.proofs.Common.{◌≡◌, ◌≢◌, set, Some, slice_get, nat_lt, true, sym, ap, ◌∙◌, arith}
use Rattle.std.proofs.lemmas.Bool.Decides.{nat_tests}
use Rattle.work_queues.specs.Queues.{Seat, numbers_of, queued_of, seats}
use Rattle.work_queues.proofs.QueueLaws.{queue_within, read, stands, inside, seat_is, set_kept}
use Rattle.work_queues.proofs.queues.Queues.push.Goals as goal

pub queued-queued-requires-clause-queue : goal.queued-queued-requires-clause-queue
queued-queued-requires-clause-queue c =
    let at = read c.args.self.now.places.items c.args.number c.index.result.now (omega arith) c.index.ensures in
    let lt = queue_within c.args.self.now.queues.items c.index.result.now.queue c.index.result.now.place (inside c.args.self.now c.args.number c.index.result.now c.requires.placed at) in
    omega (arith, lt)

pub relabel-requires-clause-place : goal.relabel-requires-clause-place
relabel-requires-clause-place c =
    let at = read c.args.self.now.places.items c.args.number c.index.result.now (omega arith) c.index.ensures in
    inside c.args.self.now c.args.number c.index.result.now c.requires.placed at

pub exchange-requires-clause-a : goal.exchange-requires-clause-a
exchange-requires-clause-a c =
    let at = read c.args.self.now.places.items c.args.number c.index.result.now (omega arith) c.index.ensures in
    inside c.args.self.now c.args.number c.index.result.now c.requires.placed at

pub exchange-requires-clause-b : goal.exchange-requires-clause-b
exchange-requires-clause-b c =
    let at = read c.args.self.now.places.items c.args.number c.index.result.now (omega arith) c.index.ensures in
    let lt = inside c.args.self.now c.args.number c.index.result.now c.requires.placed at in
    let value = c.queued-queued.ensures.value in
    omega (arith, lt, value)

pub admit-requires-clause-within : goal.admit-requires-clause-within
admit-requires-clause-within c =
    let at = read c.args.self.now.places.items c.args.number c.index.result.now (omega arith) c.index.ensures in
    let lt = inside c.args.self.now c.args.number c.index.result.now c.requires.placed at in
    let value = c.queued-queued.ensures.value in
    let len = c.exchange.ensures.same.len c.index.result.now.queue in
    let queued = c.exchange.ensures.same.queued c.index.result.now.queue in
    omega (arith, lt, value, len, queued)

pub returns-then-place-queued-clause-seats : goal.returns-then-place-queued-clause-seats
returns-then-place-queued-clause-seats c = λ seat was.
    (let at = read c.args.self.now.places.items c.args.number c.index.result.now (omega arith) c.index.ensures in
    let is = seat_is c.args.self.now c.args.number seat c.index.result.now was at in
    let yes : nat_lt c.index.result.now.place (queued_of c.args.self.now.queues.items c.index.result.now.queue) ≡ true = grind (arith, nat_tests, c.queued-queued.ensures.value, c.if-place-queued.true) in
    let same : record { queue = seat.queue; is_queued = true } ≡ seat = ap (λ z. record { queue = seat.queue; is_queued = z }) (sym (ap (λ (z : Seat). z.is_queued) is ∙ yes)) in
    c.settle.ensures.seats
    ∙ c.relabel.ensures.seats
    ∙ sym (ap (λ z. set (seats c.args.self.now) c.args.number z) same ∙ set_kept (seats c.args.self.now) c.args.number seat was))

pub returns-else-place-queued-clause-seats : goal.returns-else-place-queued-clause-seats
returns-else-place-queued-clause-seats c = λ seat was.
    (let at = read c.args.self.now.places.items c.args.number c.index.result.now (omega arith) c.index.ensures in
    let is = seat_is c.args.self.now c.args.number seat c.index.result.now was at in
    let here = stands c.args.self.now c.args.number c.index.result.now c.requires.placed at in
    let count : queued_of c.exchange.new.self.queues.items c.index.result.now.queue ≡ c.queued-queued.result = c.exchange.ensures.same.queued c.index.result.now.queue ∙ sym c.queued-queued.ensures.value in
    let first : slice_get (numbers_of c.exchange.new.self.queues.items c.index.result.now.queue) (queued_of c.exchange.new.self.queues.items c.index.result.now.queue) ≡ Some c.args.number =
    ap (λ z. slice_get (numbers_of c.exchange.new.self.queues.items c.index.result.now.queue) z) count ∙ c.exchange.ensures.moved ∙ here in
    c.rise.ensures.seats
    ∙ c.relabel-else-place-queued.ensures.seats
    ∙ c.admit.ensures.seats c.args.number first
    ∙ ap (λ z. set z c.args.number (record { queue = c.index.result.now.queue; is_queued = true })) c.exchange.ensures.same.seats
    ∙ ap (λ z. set (seats c.args.self.now) c.args.number (record { queue = z; is_queued = true })) (sym (ap (λ (z : Seat). z.queue) is)))

pub returns-else-place-queued-clause-elsewhere : goal.returns-else-place-queued-clause-elsewhere
returns-else-place-queued-clause-elsewhere c = λ seat was elsewhere differ.
    (let at = read c.args.self.now.places.items c.args.number c.index.result.now (omega arith) c.index.ensures in
    let is = seat_is c.args.self.now c.args.number seat c.index.result.now was at in
    let apart : elsewhere ≢ c.index.result.now.queue = λ h. differ (h ∙ sym (ap (λ (z : Seat). z.queue) is)) in
    c.rise.ensures.queued elsewhere ∙ c.relabel-else-place-queued.ensures.queued elsewhere ∙ c.admit.ensures.elsewhere elsewhere apart ∙ c.exchange.ensures.same.queued elsewhere)
