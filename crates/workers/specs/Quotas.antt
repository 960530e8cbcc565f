-- Quotas: how many bytes kept bodies may have together before nothing more is requested (GNU Wget manual, Download Options).
use Rattle.std.specs.Prelude.{◌≡◌, ◌<◌, ℕ, Option, Result, IfOk, IfErr, IsSomeAnd}
use Rattle.std.specs.List.{sum_by}
use Rattle.frontier_core.specs.declared.event.Cause.TheVariants as why
use Rattle.harvest.specs.Harvests.{Harvested}
use Rattle.harvest.specs.declared.page.KeptPage.{KeptPage}
use Rattle.workers.specs.declared.retrieval.Halt.{Halt}

-- so many bytes are more than the quota, if there is one
abbrev pub IsPassed : Option ℕ → ℕ → Type 0
IsPassed quota bytes = IsSomeAnd quota (λ most. most < bytes)

-- how many bytes the body of a page has
abbrev pub page_len : {B : Type 0} → (B → ℕ) → KeptPage B → ℕ
page_len len_of page = len_of page.body

-- What found all that is to be found keeps no more bytes than the quota, and what stopped for the quota keeps more.
pub record KeepsTo {B : Type 0} (most : Option ℕ) (len_of : B → ℕ) (r : Result (Harvested B) (Halt B)) : Type 0 where
  pub within : IfOk r (λ h. ¬ IsPassed most (sum_by len_of h.bodies))
  pub beyond : IfErr r (λ halt. halt.cause ≡ why.Quota → IsPassed most (sum_by len_of halt.harvest.bodies))
