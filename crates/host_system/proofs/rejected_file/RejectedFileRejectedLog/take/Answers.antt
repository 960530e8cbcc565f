-- What a file has taken isn't known.
use Rattle.std.proofs.Common.{[], None, refl}
use Rattle.std.proofs.KnownBytes.{Appends-nil}
use Rattle.host_system.proofs.rejected_file.RejectedFileRejectedLog.take.Goals as goal

pub returns : goal.returns
returns g c = record { front = []; rest = c.args.text.now; parts = refl; appended = Appends-nil None }
