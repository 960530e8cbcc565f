use Rattle.std.proofs.Common.{refl, ap, ◌∙◌}
use Rattle.work_queues.specs.Queues.{numbers_of, queued_of}
use Rattle.work_queues.proofs.Resizes.{alike}
use Rattle.work_queues.proofs.Additions.{numbers-append, queued-append}
use Rattle.work_queues.proofs.queues.Queues.open.Goals as goal

pub returns-clause-placed : goal.returns-clause-placed
returns-clause-placed c =
    (alike c.args.self.now _ c.requires.placed
    (λ queue. ap (λ z. numbers_of z queue) c.in_ok-push.ensures.items ∙ numbers-append c.args.self.now.queues.items (record { members = c.new.result; queued = 0 }) c.new.ensures.items queue)
    (λ queue. ap (λ z. queued_of z queue) c.in_ok-push.ensures.items ∙ queued-append c.args.self.now.queues.items (record { members = c.new.result; queued = 0 }) refl queue)
    refl).0

pub returns-clause-seats : goal.returns-clause-seats
returns-clause-seats c =
    (alike c.args.self.now (record { queues = c.push.new.self; places = c.args.self.now.places }) c.requires.placed
    (λ queue. ap (λ z. numbers_of z queue) c.in_ok-push.ensures.items ∙ numbers-append c.args.self.now.queues.items (record { members = c.new.result; queued = 0 }) c.new.ensures.items queue)
    (λ queue. ap (λ z. queued_of z queue) c.in_ok-push.ensures.items ∙ queued-append c.args.self.now.queues.items (record { members = c.new.result; queued = 0 }) refl queue)
    refl).1

pub returns-clause-queued : goal.returns-clause-queued
returns-clause-queued c = λ queue.
    ap (λ z. queued_of z queue) c.in_ok-push.ensures.items ∙ queued-append c.args.self.now.queues.items (record { members = c.new.result; queued = 0 }) refl queue
