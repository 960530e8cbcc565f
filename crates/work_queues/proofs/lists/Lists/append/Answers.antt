use Rattle.std.proofs.Common.{refl}
use Rattle.work_queues.specs.declared.task.Task.TheVariants.{Done}
use Rattle.work_queues.proofs.SetLaws.{appended_keeps}
use Rattle.work_queues.proofs.lists.Lists.append.Goals as goal

pub returns-clause-kept : goal.returns-clause-kept
returns-clause-kept c =
    appended_keeps c.args.self.now _ (record { origin = c.args.origin; task = Done }) c.requires.kept refl c.push_reserved.ensures.items c.requires.origin refl refl refl refl c.add.ensures.pool
    c.add.ensures.seats c.add.ensures.origins c.add-2.ensures.pool c.add-2.ensures.seats c.add-2.ensures.origins c.add-3.ensures.placed c.add-3.ensures.seats c.add-3.ensures.queues
