-- It follows what was written, or only a front of that was.
use Rattle.std.proofs.Common.{◌≡◌, inr, refl}
use Rattle.std.specs.Io.KnownBytes.{Appends}
use Rattle.streams.specs.Streams.{AppendsFront}
use Rattle.retriever.specs.Saving.{save_text}
use Rattle.retriever.proofs.DeliveryLaws.{front_of_first}
use Rattle.retriever.proofs.SavingLaws.{saving_behind}
use Rattle.retriever.proofs.saved_run.write_saving_after.Goals as goal

pub returns-in-Ok : goal.returns-in-Ok
returns-in-Ok g c = λ before text wanted told.
    let is : (c.in-Ok.status ≡ wanted) × Appends before (g.W.Write.contents c.args.writer.now) text = rw c.in-Ok.is at told in
    saving_behind c.args.saving before _ _ c.in-Ok.status c.write_saving.result c.write_saving.ensures text wanted is.0 is.1

pub returns-in-Err : goal.returns-in-Err
returns-in-Err g c = λ before text wanted told.
    let front : AppendsFront before (g.W.Write.contents c.args.writer.now) text = rw c.in-Err.is at told in
    inr (refl, front_of_first before _ text (save_text c.args.saving) front)
