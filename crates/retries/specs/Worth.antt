-- Answers and faults that are worth another try (GNU Wget manual, options `--tries`, `--retry-connrefused`, `--retry-on-host-error` and
-- `--retry-on-http-error`; RFC 9110, section 10.2.3; RFC 6585, section 4).
use Rattle.std.specs.Prelude.{◌||◌, ◌==◌, ℕ, Bool, true, false, List, [], ◌∷◌, Option, Some, None, nat_eq}
use Rattle.std.specs.List.{list_any}
use Rattle.run_failures.specs.declared.loss_kind.LossKind.{LossKind}
use Rattle.run_failures.specs.declared.loss_kind.LossKind.TheVariants as loss
use Rattle.fetcher.specs.declared.fault_kind.FaultKind.{FaultKind}
use Rattle.fetcher.specs.declared.fault_kind.FaultKind.TheVariants as kind
use Rattle.fetcher.specs.declared.outcome.Outcome.{Outcome}
use Rattle.fetcher.specs.declared.outcome.Outcome.TheVariants as outcome
use Rattle.answer_notes.specs.HopChains.{HopValue}
use Rattle.answer_notes.specs.declared.received.Received.{Received}
use Rattle.answer_notes.specs.declared.received.Received.TheVariants.{Whole, Fault}
use Rattle.pacing.specs.Retries.{Retried}

-- the server may answer otherwise later: 429, 503, 504, or a status that the words name (`--retry-on-http-error`)
abbrev pub is_worth_status : Retried → ℕ → Bool
is_worth_status retries status =
    status == 429 || (status == 503 || (status == 504 || list_any (λ s. nat_eq s status) retries.statuses))

-- a connection that timed out, broke or failed otherwise; if the words say so, one to a server that refused it or couldn't be reached, or to
-- an unknown host; none if this machine was short of a descriptor or a port, or no reason is known
abbrev pub is_worth_loss : Retried → Option LossKind → Bool
is_worth_loss retries None = false
is_worth_loss retries (Some loss.TimedOut) = true
is_worth_loss retries (Some loss.Broken) = true
is_worth_loss retries (Some loss.Other) = true
is_worth_loss retries (Some loss.Refused) = retries.refused
is_worth_loss retries (Some loss.Unreachable) = retries.refused
is_worth_loss retries (Some loss.Unknown) = retries.refused || retries.unknown
is_worth_loss retries (Some loss.Resolver) = retries.refused || retries.unknown
is_worth_loss retries (Some loss.Descriptor) = false
is_worth_loss retries (Some loss.Port) = false

-- a connection that wasn't made, that failed, or that ended before the answer did; no answer that is ill-formed
abbrev pub is_worth_fault : Retried → FaultKind → Option LossKind → Bool
is_worth_fault retries kind.Connect lost = is_worth_loss retries lost
is_worth_fault retries kind.Device lost = true
is_worth_fault retries kind.Ended lost = true
is_worth_fault retries kind.Head lost = false
is_worth_fault retries kind.HeadLong lost = false
is_worth_fault retries kind.Length lost = false
is_worth_fault retries kind.Coding lost = false
is_worth_fault retries kind.Chunk lost = false
is_worth_fault retries kind.BodyLong lost = false

-- what was received for an address, if this was the connection's loss
abbrev pub is_worth : Retried → Received → Option LossKind → Bool
is_worth retries (Whole response) lost = is_worth_status retries response.head.status
is_worth retries (Fault kind) lost = is_worth_fault retries kind lost

-- the same of a robots file: the last of its hops counts
abbrev pub is_worth_hops : Retried → List HopValue → Option LossKind → Bool
is_worth_hops retries [] lost = false
is_worth_hops retries (hop ∷ []) lost = is_worth retries hop.1 lost
is_worth_hops retries (hop ∷ next ∷ more) lost = is_worth_hops retries (next ∷ more) lost

-- the same by what became of the address
abbrev pub is_worth_outcome : Retried → Outcome → Option LossKind → Bool
is_worth_outcome retries (outcome.Page status edges) lost = is_worth_status retries status
is_worth_outcome retries (outcome.Moved status target) lost = is_worth_status retries status
is_worth_outcome retries (outcome.Leaf status) lost = is_worth_status retries status
is_worth_outcome retries (outcome.Fault kind) lost = is_worth_fault retries kind lost
