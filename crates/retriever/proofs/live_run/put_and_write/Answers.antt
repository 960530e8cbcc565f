-- The files were put, or so many are whole by what the fault says.
use Rattle.std.proofs.Common.{◌≡◌, ℕ, Bool, List, inl, inr, sym, subst}
use Rattle.local_tree.specs.Folders.{Holding}
use Rattle.local_tree.specs.declared.site_files.WriteFault.{WriteFault}
use Rattle.local_tree.specs.declared.site_files.WriteFault.TheVariants.{Device}
use Rattle.retriever.specs.Keeping.{Keeping}
use Rattle.retriever.specs.Mirrored.{IsHalfPutAs}
use Rattle.retriever.specs.inner.Puts.{IsHalfPutBy, files_whole}
use Rattle.run_mirror.specs.Mirrors.{Kept}
use Rattle.retriever.proofs.live_run.put_and_write.Goals as goal

torn_is : {B : Type 0} (converts : Bool) (keeps : Keeping B) (kept : Kept) (bodies : List B) (old new : Holding) (fault : WriteFault) (whole : ℕ) → whole ≡ files_whole fault
    → IsHalfPutBy converts keeps kept bodies old new fault → IsHalfPutAs converts keeps kept bodies old new whole
torn_is converts keeps kept bodies old new (Device k) whole is torn = subst (λ (n : ℕ). IsHalfPutAs converts keeps kept bodies old new n) (sym is) torn

pub returns-in-Ok : goal.returns-in-Ok
returns-in-Ok g c = inl (c.in-Ok.all, c.in-Ok.ensures.whole, c.in-Ok.ensures.quiet, c.write_put.ensures)

pub returns-in-Err : goal.returns-in-Err
returns-in-Err g c =
    inr (
      c.files_whole.result,
      torn_is _ _ _ _ _ _ c.in-Err.fault c.files_whole.result c.files_whole.ensures c.in-Err.ensures.torn,
      c.write_torn.ensures,
    )
