use Rattle.work_queues.specs.Tasks.{is_waiting}
use Rattle.work_queues.specs.Lists.{item_of}
use Rattle.work_queues.specs.declared.lists.Job.{Job}
use Rattle.work_queues.proofs.ListLaws.{item_at, number_in}
use Rattle.work_queues.proofs.agenda.Agenda.waiting_at.Goals as goal

pub returns : goal.returns
returns c = rw (← c.self.view_is)
    (let there = c.first_at.ensures in
    let job = number_in c.self.inside.lists.waiting (λ (j : Job). is_waiting j.task) c.self.inside.lists.jobs.items c.self.inside.lists.origins.entries c.args.place c.first_at.result there.0 c.self.invariant.waiting (rw (← c.self.view_is) at c.requires) there.1 there.2 in
    (item_of c.self.inside.lists.origins.entries job.0, item_at c.self.inside.lists c.first_at.result job.0 job.1, job.2, job.3))
