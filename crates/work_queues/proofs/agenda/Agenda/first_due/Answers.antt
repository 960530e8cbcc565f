use Rattle.std.proofs.Common.{◌≡◌, Some, true, sym, ap, ◌∙◌}
use Rattle.std.specs.Prelude.{slice_get}
use Rattle.std.proofs.lemmas.Option.{IfSome_then}
use Rattle.work_queues.specs.Queues.{Seat}
use Rattle.work_queues.specs.Tasks.{Item, is_due}
use Rattle.work_queues.specs.Lists.{item_of}
use Rattle.work_queues.specs.declared.lists.Job.{Job}
use Rattle.work_queues.proofs.QueueLaws.{none_queued}
use Rattle.work_queues.proofs.ListLaws.{item_at, job_of, mapped, unmapped, none_then}
use Rattle.work_queues.proofs.agenda.Agenda.first_due.Goals as goal

-- the seat of a job among those that are due
due_seat : Job → Seat
due_seat job = record { queue = 0; is_queued = is_due job.task }

pub returns-clause-some : goal.returns-clause-some
unfolding due_seat
returns-clause-some c = rw (← c.self.view_is)
    (IfSome_then c.first.result c.first.ensures.some
    (λ number at. (let job = unmapped due_seat c.self.inside.lists.jobs.items number (record { queue = 0; is_queued = true }) (ap (λ z. slice_get z number) (sym c.self.invariant.due) ∙ at) in
    (item_of c.self.inside.lists.origins.entries job.0, item_at c.self.inside.lists number job.0 job.1, sym (ap (λ (z : Seat). z.is_queued) job.2)))))

pub returns-clause-none : goal.returns-clause-none
unfolding due_seat
returns-clause-none c = rw (← c.self.view_is)
    (none_then c.first.result c.first.ensures.none
    (λ none number item at yes. (let job = job_of c.self.inside.lists number item at in
    let is_in : is_due job.0.task ≡ true = ap (λ (z : Item). is_due z.task) (sym job.2) ∙ yes in
    none_queued c.self.inside.lists.due 0 number c.self.invariant.due_placed none
    (ap (λ z. slice_get z number) c.self.invariant.due ∙ mapped due_seat c.self.inside.lists.jobs.items number job.0 job.1 ∙ ap (λ z. Some (record { queue = 0; is_queued = z })) is_in))))
