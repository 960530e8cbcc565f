use Rattle.std.proofs.Common.{length, List, ℕ}
use Rattle.std.specs.Prelude.{Contains}
use Rattle.harvest.specs.Entries.{ruled_origins}
use Rattle.workers.specs.inner.Notes.{origins}
use Rattle.workers.proofs.comparison.known_rules_are_noted.Given as goal

-- if what is left was noted, all was; and what is left is some of it
abbrev pub invariant-rules : goal.invariant-rules
invariant-rules l = record {
  all : ((o : List ℕ) → Contains (ruled_origins l.rules) o → Contains (origins l.notes) o)
      → (o : List ℕ) → Contains (ruled_origins l.initial.rules) o → Contains (origins l.notes) o;
  left : (o : List ℕ) → Contains (ruled_origins l.rules) o → Contains (ruled_origins l.initial.rules) o;
}

abbrev pub decreases-rules : goal.decreases-rules
decreases-rules l = length l.rules
