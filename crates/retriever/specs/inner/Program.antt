-- What proofs alone need beside `Program`.
use Rattle.std.specs.Prelude.{◌≡◌, ◌⊎◌, ℕ, List, Option}
use Rattle.retriever.specs.Order.{AreForInput, AreForLive}
use Rattle.retriever.specs.Run.{Runs}
use Rattle.retriever.specs.Program.{Outputs, IsFaultReported, IsQuietFor}

-- the streams of the program at one moment: its reader with what that has left, and its outputs
pub record Streams (R E : Type 0) : Type 0 where
  pub reader : R
  pub remaining : Option (List ℕ)
  pub outputs : Outputs E

-- these streams
abbrev pub all_streams : {R E : Type 0} → (R → Option (List ℕ)) → R → Outputs E → Streams R E
all_streams remaining reader outputs = record { reader = reader; remaining = remaining reader; outputs = outputs }

-- What becomes of the words: those that order a site on the network are retrieved live, and others run. No byte of the
-- reader is read except of words for an input, and for words that order nothing something is written for a person.
pub record Starts {R E : Type 0} (LiveRun : List (List ℕ) → Type 0) (before after : Streams R E) (status : ℕ) (words : List (List ℕ)) : Type 0 where
  pub runs : ¬ AreForLive words → Runs words before.remaining before.outputs.written after.outputs.written status
  pub lives : AreForLive words → LiveRun words
  pub unread : ¬ AreForInput words → after.reader ≡ before.reader
  pub told : ¬ AreForInput words → ¬ AreForLive words → IsFaultReported words before.outputs after.outputs status
  pub quiet : AreForInput words ⊎ AreForLive words → IsQuietFor words before.outputs after.outputs
