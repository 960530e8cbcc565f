use Rattle.std.proofs.Common.{◌≡◌, ◌<◌, [], Bool, length, Some, true, sym, ap, ◌∙◌}
use Rattle.std.specs.Prelude.{slice_get}
use Rattle.std.specs.Str.{bytes_eq}
use Rattle.std.proofs.lemmas.List.{length-map}
use Rattle.std.proofs.lemmas.List.Quantifiers.{position-Some}
use Rattle.std.proofs.lemmas.Option.{IfSome_then}
use Rattle.std.proofs.lemmas.Slice.Eq.{bytes_eq-Decides}
use Rattle.work_queues.specs.Queues.{Seat}
use Rattle.work_queues.specs.Tasks.{Item, is_parked}
use Rattle.work_queues.specs.Lists.{texts, key_at, item_of, origin_seat}
use Rattle.work_queues.specs.declared.lists.Job.{Job}
use Rattle.work_queues.proofs.QueueLaws.{none_queued}
use Rattle.work_queues.proofs.ListLaws.{item_at, job_of, unmapped, seated, none_then}
use Rattle.work_queues.proofs.SetLaws.{none_at, key_differs}
use Rattle.work_queues.proofs.agenda.Agenda.first_parked.Goals as goal

-- the test of a parked job
parks : Job → Bool
parks job = is_parked job.task

pub returns-in-Some-clause-some : goal.returns-in-Some-clause-some
unfolding parks
returns-in-Some-clause-some c = rw (← c.self.view_is)
    (let there = position-Some (bytes_eq c.args.origin.now) (texts c.self.inside.lists.origins.entries) c.in-Some.place [] (sym c.in-Some.ensures.index) in
    let key : c.args.origin.now ≡ key_at c.self.inside.lists.origins.entries c.in-Some.place = (bytes_eq-Decides c.args.origin.now (key_at c.self.inside.lists.origins.entries c.in-Some.place)).0 there.1 in
    IfSome_then c.first.result c.first.ensures.some
    (λ number seat. (let job = unmapped (origin_seat parks) c.self.inside.lists.jobs.items number (record { queue = c.in-Some.place; is_queued = true }) (ap (λ z. slice_get z number) (sym c.self.invariant.parked.seats) ∙ seat) in
    let place : c.in-Some.place ≡ job.0.origin = ap (λ (z : Seat). z.queue) job.2 in (
      item_of c.self.inside.lists.origins.entries job.0,
      item_at c.self.inside.lists number job.0 job.1,
      sym (ap (λ (z : Seat). z.is_queued) job.2),
      ap (λ z. key_at c.self.inside.lists.origins.entries z) (sym place) ∙ sym key,
    ))))

pub returns-in-Some-clause-none : goal.returns-in-Some-clause-none
unfolding parks
returns-in-Some-clause-none c = rw (← c.self.view_is)
    (let there = position-Some (bytes_eq c.args.origin.now) (texts c.self.inside.lists.origins.entries) c.in-Some.place [] (sym c.in-Some.ensures.index) in
    let key : c.args.origin.now ≡ key_at c.self.inside.lists.origins.entries c.in-Some.place = (bytes_eq-Decides c.args.origin.now (key_at c.self.inside.lists.origins.entries c.in-Some.place)).0 there.1 in
    let within : c.in-Some.place < length c.self.inside.lists.origins.entries = simp length-map at there.0 in
    none_then c.first.result c.first.ensures.none
    (λ none number item at parked of. (let job = job_of c.self.inside.lists number item at in
    let is_in : is_parked job.0.task ≡ true = ap (λ (z : Item). is_parked z.task) (sym job.2) ∙ parked in
    let same : job.0.origin ≡ c.in-Some.place =
    c.self.invariant.distinct job.0.origin c.in-Some.place (c.self.invariant.within number job.0 job.1) within (ap (λ (z : Item). z.origin) (sym job.2) ∙ of ∙ key) in
    none_queued c.self.inside.lists.parked.numbers c.in-Some.place number c.self.invariant.parked.pool.numbers none
    (seated c.self.inside.lists.parked parks c.self.inside.lists.jobs.items (length c.self.inside.lists.origins.entries) number job.0 c.self.invariant.parked job.1
    ∙ ap (λ z. Some (record { queue = z; is_queued = parks job.0 })) same ∙ ap (λ z. Some (record { queue = c.in-Some.place; is_queued = z })) is_in))))

pub returns-in-None-clause-none : goal.returns-in-None-clause-none
returns-in-None-clause-none c = rw (← c.self.view_is)
    (λ number item at parked of.
    (let job = job_of c.self.inside.lists number item at in
    let none = none_at (texts c.self.inside.lists.origins.entries) (bytes_eq c.args.origin.now) c.in-None.ensures.index job.0.origin (simp length-map (c.self.invariant.within number job.0 job.1)) in
    key_differs c.args.origin.now (key_at c.self.inside.lists.origins.entries job.0.origin) none (ap (λ (z : Item). z.origin) (sym job.2) ∙ of)))
