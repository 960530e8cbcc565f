-- The row in the fault's place has its class.
use Rattle.std.proofs.Common.{rules}
use Rattle.fetcher.specs.FaultWords.{class_of}
use Rattle.fetcher.proofs.FaultLaws.{has_row, class_at}
use Rattle.fetcher.proofs.fault_kind.FaultKind.class.Goals as goal

pub returns : goal.returns
unfolding class_of
returns c = search (rules, class_at, has_row)
