use Rattle.std.proofs.Common.{refl}
use Rattle.workers.proofs.worker.hand_over.Goals as goal

pub returns-in-Err : goal.returns-in-Err
returns-in-Err g c = rw c.unanswered_page.ensures (record { worker = refl; address = refl; told = refl })
