use Rattle.std.proofs.Common.{ℕ, ◌<◌, List, get_or}
use Rattle.address.specs.AddressOrder.{IsBefore}
use Rattle.local_names.proofs.naming.ascend.Given as goal

abbrev pub invariant-loop-i : goal.invariant-loop-i
invariant-loop-i l = (a b : ℕ) (d : List ℕ) → a < b → b < l.i → IsBefore (get_or l.pages a d) (get_or l.pages b d)
