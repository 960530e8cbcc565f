-- What is put and written of a retrieval that stopped, by its cause.
use Rattle.std.proofs.Common.{◌≡◌, ◌≢◌, ℕ, Bool, List, refl, sym, subst}
use Rattle.frontier_core.specs.declared.event.Cause.{Cause}
use Rattle.frontier_core.specs.declared.event.Cause.TheVariants as why
use Rattle.harvest.specs.Harvests.{Harvested}
use Rattle.local_tree.specs.Folders.{Holding}
use Rattle.options.specs.declared.naming.PageNames.{PageNames}
use Rattle.retriever.specs.Keeping.{Keeping}
use Rattle.retriever.specs.inner.Puts.{IsHaltWritten, IsHarvestPut, IsStopPut}

module _ {B : Type 0} (converts : Bool) (keeps : Keeping B) (IsWritten : List ℕ → ℕ → Type 0) (naming : PageNames) (with_trace : Bool) where
  -- for the quota: the same as of a harvest
  pub quota_put : (cause : Cause) (h : Harvested B) (old new : Holding) → cause ≡ why.Quota → IsHarvestPut converts keeps IsWritten naming with_trace h old new → IsStopPut converts keeps IsWritten naming with_trace cause h old new
  quota_put cause h old new is put = subst (λ (x : Cause). IsStopPut converts keeps IsWritten naming with_trace x h old new) (sym is) put

  -- for any other cause: nothing is put, and that is written
  stop_told : (cause : Cause) (h : Harvested B) (old new : Holding) → cause ≢ why.Quota → new ≡ old → IsHaltWritten IsWritten with_trace (record { cause = cause; harvest = h }) → IsStopPut converts keeps IsWritten naming with_trace cause h old new
  stop_told why.Full h old new other same told = (same, told)
  stop_told why.Memory h old new other same told = (same, told)
  stop_told why.Mismatch h old new other same told = (same, told)
  stop_told why.Quota h old new other same told = absurd (other refl)

  pub full_put : (cause : Cause) (h : Harvested B) (old new : Holding) → cause ≡ why.Full → new ≡ old → IsHaltWritten IsWritten with_trace (record { cause = cause; harvest = h }) → IsStopPut converts keeps IsWritten naming with_trace cause h old new
  full_put cause h old new is same told = stop_told cause h old new (λ quota. let other : why.Full ≡ why.Quota = cc (is, quota) in cc) same told

  pub memory_put : (cause : Cause) (h : Harvested B) (old new : Holding) → cause ≡ why.Memory → new ≡ old → IsHaltWritten IsWritten with_trace (record { cause = cause; harvest = h }) → IsStopPut converts keeps IsWritten naming with_trace cause h old new
  memory_put cause h old new is same told = stop_told cause h old new (λ quota. let other : why.Memory ≡ why.Quota = cc (is, quota) in cc) same told

  pub mismatch_put : (cause : Cause) (h : Harvested B) (old new : Holding) → cause ≡ why.Mismatch → new ≡ old → IsHaltWritten IsWritten with_trace (record { cause = cause; harvest = h }) → IsStopPut converts keeps IsWritten naming with_trace cause h old new
  mismatch_put cause h old new is same told = stop_told cause h old new (λ quota. let other : why.Mismatch ≡ why.Quota = cc (is, quota) in cc) same told
