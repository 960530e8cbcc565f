-- The row in the fault's place has its word.
use Rattle.std.proofs.Common.{rules, ℕ, List}
use Rattle.std.specs.Borrow.{Bor}
use Rattle.fetcher.specs.FaultWords.{word_of}
use Rattle.fetcher.proofs.FaultLaws.{has_row, word_at}
use Rattle.fetcher.proofs.fault_kind.FaultKind.word.Goals as goal

pub returns : goal.returns
unfolding word_of
returns c = search (rules, word_at (λ (text : Bor (List ℕ)). text.now), has_row)
