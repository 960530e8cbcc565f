use Rattle.std.proofs.Common.{[], ◌∷◌, ◌++◌, false, ap, ◌∙◌}
use Rattle.work_queues.proofs.PoolLaws.{pool_open}
use Rattle.work_queues.proofs.pool.Pool.open.Goals as goal

pub returns-clause-pool : goal.returns-clause-pool
returns-clause-pool c =
    pool_open c.args.self.now _ c.requires c.in_ok-open.ensures.placed c.add.ensures.placed (c.add.ensures.queues ∙ c.in_ok-reserve.ensures.same.queues) c.in_ok-open.ensures.ok
    (c.add.ensures.seats ∙ ap (λ z. z ++ record { queue = 0; is_queued = false } ∷ []) c.in_ok-reserve.ensures.same.seats) c.in_ok-open.ensures.queued
