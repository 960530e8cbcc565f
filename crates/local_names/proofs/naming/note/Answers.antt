use Rattle.std.proofs.Common.{inr, refl}
use Rattle.local_names.proofs.LeastLaws.{past_of}
use Rattle.local_names.proofs.naming.note.Goals as goal

pub returns-then-is_past : goal.returns-then-is_past
returns-then-is_past c = inr (past_of c.args.least.now c.args.i c.args.name.now (c.is_past.ensures c.if-is_past.true), λ q. refl)
