use Rattle.std.proofs.Common.{◌≡◌, ◌<◌, length, set, refl, sym, ap, ◌∙◌, arith}
use Rattle.std.specs.Prelude.{slice_get}
use Rattle.std.proofs.lemmas.List.{length-map}
use Rattle.work_queues.specs.Queues.{seats}
use Rattle.work_queues.specs.Tasks.{is_out, is_waiting, is_parked}
use Rattle.work_queues.specs.inner.Lists.{one}
use Rattle.work_queues.specs.declared.lists.Job.{Job}
use Rattle.work_queues.proofs.QueueLaws.{read}
use Rattle.work_queues.proofs.ListLaws.{seated, count_read, out_some, out_few, mapped}
use Rattle.work_queues.proofs.SetLaws.{IsChanged, changed_keeps, changed_items, reseated, due_seat}
use Rattle.work_queues.proofs.agenda.Agenda.set.Goals as goal

pub recount-requires-clause-some : goal.recount-requires-clause-some
recount-requires-clause-some c = λ out.
    (let lt : c.args.number < length c.self.inside.lists.jobs.items = simp length-map at (rw (← c.self.view_is) at c.requires) in
    let at = read c.self.inside.lists.jobs.items c.args.number c.index.result.now lt c.index.ensures in
    let count = count_read c.self.inside.lists c.index.result.now.origin c.index-2.result.now c.self.invariant c.index-2.ensures in
    let some = out_some c.self.inside.lists.jobs.items c.args.number c.index.result.now at (sym c.is_out.ensures ∙ out) in
    omega (arith, count, some))

pub recount-requires-clause-room : goal.recount-requires-clause-room
recount-requires-clause-room c =
    let count = count_read c.self.inside.lists c.index.result.now.origin c.index-2.result.now c.self.invariant c.index-2.ensures in
    let few = out_few c.self.inside.lists.jobs.items c.index.result.now.origin in
    let small = c.self.inside.lists.jobs.small in
    omega (arith, count, few, small)

pub index_mut-requires-2 : goal.index_mut-requires-2
index_mut-requires-2 c =
    let lt : c.args.number < length c.self.inside.lists.jobs.items = simp length-map at (rw (← c.self.view_is) at c.requires) in
    let at = read c.self.inside.lists.jobs.items c.args.number c.index.result.now lt c.index.ensures in
    c.self.invariant.within c.args.number c.index.result.now at

pub put-requires-clause-number : goal.put-requires-clause-number
put-requires-clause-number c =
    let lt : c.args.number < length c.self.inside.lists.jobs.items = simp length-map at (rw (← c.self.view_is) at c.requires) in
    let at = read c.self.inside.lists.jobs.items c.args.number c.index.result.now lt c.index.ensures in
    (is_waiting c.index.result.now.task, seated c.self.inside.lists.waiting (λ (j : Job). is_waiting j.task) c.self.inside.lists.jobs.items (length c.self.inside.lists.origins.entries) c.args.number c.index.result.now c.self.invariant.waiting at)

pub put-requires-clause-origin : goal.put-requires-clause-origin
put-requires-clause-origin c =
    let lt : c.args.number < length c.self.inside.lists.jobs.items = simp length-map at (rw (← c.self.view_is) at c.requires) in
    let at = read c.self.inside.lists.jobs.items c.args.number c.index.result.now lt c.index.ensures in
    let within = c.self.invariant.within c.args.number c.index.result.now at in
    let long = c.self.invariant.waiting.origins in
    omega (arith, within, long)

pub put-requires-2-clause-number : goal.put-requires-2-clause-number
put-requires-2-clause-number c =
    let lt : c.args.number < length c.self.inside.lists.jobs.items = simp length-map at (rw (← c.self.view_is) at c.requires) in
    let at = read c.self.inside.lists.jobs.items c.args.number c.index.result.now lt c.index.ensures in
    (is_parked c.index.result.now.task, seated c.self.inside.lists.parked (λ (j : Job). is_parked j.task) c.self.inside.lists.jobs.items (length c.self.inside.lists.origins.entries) c.args.number c.index.result.now c.self.invariant.parked at)

pub put-requires-2-clause-origin : goal.put-requires-2-clause-origin
put-requires-2-clause-origin c =
    let lt : c.args.number < length c.self.inside.lists.jobs.items = simp length-map at (rw (← c.self.view_is) at c.requires) in
    let at = read c.self.inside.lists.jobs.items c.args.number c.index.result.now lt c.index.ensures in
    let within = c.self.invariant.within c.args.number c.index.result.now at in
    let long = c.self.invariant.parked.origins in
    omega (arith, within, long)

pub put-requires-3-clause-number : goal.put-requires-3-clause-number
put-requires-3-clause-number c =
    let lt : c.args.number < length c.self.inside.lists.jobs.items = simp length-map at (rw (← c.self.view_is) at c.requires) in
    let at = read c.self.inside.lists.jobs.items c.args.number c.index.result.now lt c.index.ensures in
    let many : length (seats c.self.inside.lists.due) ≡ length c.self.inside.lists.jobs.items = ap (λ z. length z) c.self.invariant.due ∙ simp length-map in
    let places : length (seats c.self.inside.lists.due) ≡ length c.self.inside.lists.due.places.items = simp length-map in
    omega (arith, lt, many, places)

-- what the body leaves
is_changed : (c : goal.After-put-3) → IsChanged c.self.inside.lists (record { origins = Rattle.indexmap.specs.IndexMap.with_value_at c.self.inside.lists.origins c.index.result.now.origin c.recount.result; jobs = Rattle.std.specs.Vec.with_item c.self.inside.lists.jobs c.args.number (record { origin = c.index.result.now.origin; task = c.args.task }); waiting = c.put.new.self; parked = c.put-2.new.self; due = c.put-3.new.self }) c.args.number c.index.result.now c.args.task c.recount.result
is_changed c =
    let lt : c.args.number < length c.self.inside.lists.jobs.items = simp length-map at (rw (← c.self.view_is) at c.requires) in
    let at = read c.self.inside.lists.jobs.items c.args.number c.index.result.now lt c.index.ensures in
    let count = count_read c.self.inside.lists c.index.result.now.origin c.index-2.result.now c.self.invariant c.index-2.ensures in
    let before : one c.is_out.result ≡ one (is_out c.index.result.now.task) = ap (λ z. one z) c.is_out.ensures in
    let after : one c.is_out-2.result ≡ one (is_out c.args.task) = ap (λ z. one z) c.is_out-2.ensures in
    let recounted = c.recount.ensures in
    record {
      at = at;
      jobs = refl;
      origins = refl;
      counted = omega (arith, count, before, after, recounted);
      waiting = reseated c.self.inside.lists.waiting c.put.new.self (λ (j : Job). is_waiting j.task) c.self.inside.lists.jobs.items (length c.self.inside.lists.origins.entries) c.args.number (record { origin = c.index.result.now.origin; task = c.args.task }) c.self.invariant.waiting c.put.ensures.pool
          (c.put.ensures.seats ∙ ap (λ z. set (seats c.self.inside.lists.waiting.numbers) c.args.number (record { queue = c.index.result.now.origin; is_queued = z })) c.is_waiting.ensures) c.put.ensures.origins;
      parked = reseated c.self.inside.lists.parked c.put-2.new.self (λ (j : Job). is_parked j.task) c.self.inside.lists.jobs.items (length c.self.inside.lists.origins.entries) c.args.number (record { origin = c.index.result.now.origin; task = c.args.task }) c.self.invariant.parked c.put-2.ensures.pool
          (c.put-2.ensures.seats ∙ ap (λ z. set (seats c.self.inside.lists.parked.numbers) c.args.number (record { queue = c.index.result.now.origin; is_queued = z })) c.is_parked.ensures) c.put-2.ensures.origins;
      due_placed = c.put-3.ensures.placed;
      due = c.put-3.ensures.seats (due_seat c.index.result.now) (ap (λ z. slice_get z c.args.number) c.self.invariant.due ∙ mapped due_seat c.self.inside.lists.jobs.items c.args.number c.index.result.now at)
          ∙ ap (λ z. set (seats c.self.inside.lists.due) c.args.number (record { queue = 0; is_queued = z })) c.is_due.ensures;
      due_queue = c.put-3.ensures.queues ∙ c.self.invariant.due_queue;
    }

pub invariant_of-self : goal.invariant_of-self
invariant_of-self c = changed_keeps c.self.inside.lists _ c.args.number c.index.result.now c.args.task c.recount.result c.self.invariant (is_changed c)

pub returns : goal.returns
returns c = rw (← c.self.view_is)
    (λ item at. changed_items c.self.inside.lists _ c.args.number c.index.result.now c.args.task c.recount.result (is_changed c) item at)
