use Rattle.std.proofs.Common.{[], ◌++◌}
use Rattle.std.proofs.Math.Logic.{∥∥₁_map}
use Rattle.run_store.proofs.SharedLaws.{stands_call}
use Rattle.run_store.proofs.shared.SharedIndex.sync.Goals as goal

pub invariant_of-self : goal.invariant_of-self
invariant_of-self g c =
    let D = g.D.Disk in
    record { stands = stands_call D.tells D.opened D.seen D.named D.kept c.sync.result c.args.self.now.index c.sync.new.self (λ d a. d ++ a) (λ d a. []) c.args.self.now.stands c.sync.ensures.closed (λ d a s. c.sync.ensures.synced d a s) c.sync.ensures.shut }

pub returns-in-Ok : goal.returns-in-Ok
returns-in-Ok g c = record { synced = λ told is. ∥∥₁_map (c.args.self.now.stands told is) (λ s. (s.0, s.1, s.2, c.in-Ok.ensures.synced s.0 s.1 s.2, c.sync.ensures.any_moment s.0 s.1 s.2)) }

pub returns-in-Err : goal.returns-in-Err
returns-in-Err g c = record { synced = λ told is. ∥∥₁_map (c.args.self.now.stands told is) (λ s. (s.0, s.1, s.2, tt, c.sync.ensures.any_moment s.0 s.1 s.2)) }
