use Rattle.std.proofs.Common.{◌≡◌, true, sym, ap, subst, ◌∙◌}
use Rattle.std.specs.Prelude.{Contains}
use Rattle.work_queues.specs.Tasks.{Item, is_parked}
use Rattle.work_queues.specs.Lists.{parked_of}
use Rattle.work_queues.specs.declared.lists.Job.{Job}
use Rattle.work_queues.proofs.ListLaws.{job_of, origin_in}
use Rattle.work_queues.proofs.agenda.Agenda.parked_len.Goals as goal

pub returns-clause-all : goal.returns-clause-all
returns-clause-all c = rw (← c.self.view_is)
    (λ number item at yes.
    (let job = job_of c.self.inside.lists number item at in
    let is_in : is_parked job.0.task ≡ true = ap (λ (z : Item). is_parked z.task) (sym job.2) ∙ yes in
    subst (λ (z : Item). Contains (parked_of c.self.inside.lists) z.origin) (sym job.2)
    (origin_in c.self.inside.lists.parked (λ (j : Job). is_parked j.task) c.self.inside.lists.jobs.items c.self.inside.lists.origins.entries number job.0 c.self.invariant.parked (c.self.invariant.within number job.0 job.1) job.1 is_in)))
