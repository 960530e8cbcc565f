-- No directory that ends before here is one of the names.
use Rattle.std.proofs.Common.{◌≡◌, ◌<◌, ℕ, false, get_or, map, take}
use Rattle.local_names.specs.PlainNames.{slash}
use Rattle.mirror_upkeep.specs.Names.{has_name}
use Rattle.mirror_upkeep.specs.inner.Lent.{lent_text}
use Rattle.mirror_upkeep.proofs.names.is_below.Given as goal

abbrev pub invariant-loop-i : goal.invariant-loop-i
invariant-loop-i l = (k : ℕ) → k < l.i → get_or l.name k 0 ≡ slash → has_name (map lent_text l.names) (take k l.name) ≡ false
