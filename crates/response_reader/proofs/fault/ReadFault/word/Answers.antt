-- The row in the fault's place has its word.
use Rattle.std.proofs.Common.{rules, ℕ, List}
use Rattle.std.specs.Borrow.{Bor}
use Rattle.response_reader.specs.Words.{word_of}
use Rattle.response_reader.proofs.WordLaws.{has_row, word_at}
use Rattle.response_reader.proofs.fault.ReadFault.word.Goals as goal

pub returns : goal.returns
unfolding word_of
returns c = search (rules, word_at (λ (text : Bor (List ℕ)). text.now), has_row)
