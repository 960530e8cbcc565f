use Rattle.std.proofs.Common.{[], ◌∷◌, ◌++◌}
use Rattle.std.proofs.Math.Logic.{∥∥₁_map}
use Rattle.run_store.proofs.SharedLaws.{stands_call}
use Rattle.run_store.proofs.shared.SharedIndex.append.Goals as goal

pub invariant_of-self : goal.invariant_of-self
invariant_of-self g c =
    let D = g.D.Disk in
    record { stands = stands_call D.tells D.opened D.seen D.named D.kept c.append.result c.args.self.now.index c.append.new.self (λ d a. d) (λ d a. a ++ c.args.entry.now ∷ []) c.args.self.now.stands c.append.ensures.closed (λ d a s. c.append.ensures.appended d a s) c.append.ensures.shut }

pub returns-in-Ok : goal.returns-in-Ok
returns-in-Ok g c = record { appended = λ told is. ∥∥₁_map (c.args.self.now.stands told is) (λ s. (s.0, s.1, s.2, c.in-Ok.ensures.appended s.0 s.1 s.2, c.append.ensures.any_moment s.0 s.1 s.2)) }

pub returns-in-Err : goal.returns-in-Err
returns-in-Err g c = record { appended = λ told is. ∥∥₁_map (c.args.self.now.stands told is) (λ s. (s.0, s.1, s.2, tt, c.append.ensures.any_moment s.0 s.1 s.2)) }
