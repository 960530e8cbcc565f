-- The starts so far, and the rest.
use Rattle.std.proofs.Common.{◌≡◌, ◌++◌, ◌∷◌, ℕ, List, length}
use Rattle.sha2.specs.Hashers.{Holds256}
use Rattle.mirror_upkeep.specs.Journals.{starts_text}
use Rattle.mirror_upkeep.proofs.journal.starts_digest.Given as goal

abbrev pub invariant-others : goal.invariant-others
invariant-others l = (m : List ℕ) × Holds256 l.hasher m × (m ++ starts_text l.rest ≡ starts_text (l.start ∷ l.others))

abbrev pub decreases-others : goal.decreases-others
decreases-others l = length l.rest
