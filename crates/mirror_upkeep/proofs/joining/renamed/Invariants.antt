-- The pages so far, and those of the rest.
use Rattle.std.proofs.Common.{◌≡◌, ◌++◌, length, map}
use Rattle.std.specs.String.{string_bytes}
use Rattle.mirror_upkeep.specs.Joined.{renamed}
use Rattle.mirror_upkeep.proofs.joining.renamed.Given as goal

abbrev pub invariant-pages : goal.invariant-pages
invariant-pages l = l.named.items ++ renamed l.rest l.kept (map string_bytes l.names) ≡ renamed l.pages l.kept (map string_bytes l.names)

abbrev pub decreases-pages : goal.decreases-pages
decreases-pages l = length l.rest
