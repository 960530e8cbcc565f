use Rattle.std.proofs.Common.{ℕ, ◌<◌, map}
use Rattle.local_names.specs.Names.{numbered_by}
use Rattle.local_names.specs.inner.Taken.{lent_text, IsNameTaken}
use Rattle.local_names.proofs.free_name.first_free.Given as goal

abbrev pub invariant-loop-number : goal.invariant-loop-number
invariant-loop-number l = (k : ℕ) → k < l.number → IsNameTaken (map lent_text l.sorted) l.next (numbered_by l.has_endings l.plain k)
