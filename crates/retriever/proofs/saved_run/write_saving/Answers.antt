-- Nothing is written of a record that is whole.
use Rattle.std.proofs.Common.{inl, refl}
use Rattle.std.proofs.KnownBytes.{Appends-nil}
use Rattle.retriever.proofs.saved_run.write_saving.Goals as goal

pub returns-in-Ok : goal.returns-in-Ok
returns-in-Ok g c = rw c.in-Ok.is (inl (refl, Appends-nil _))
