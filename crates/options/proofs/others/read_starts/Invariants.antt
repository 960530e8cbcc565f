-- The starts so far, before those that are left.
use Rattle.std.proofs.Common.{◌≡◌, [], drop, false, map}
use Rattle.std.specs.List.{list_any}
use Rattle.address.specs.Address.{is_robots_file}
use Rattle.options.specs.Order.{starts_after}
use Rattle.options.proofs.others.read_starts.Given as goal

abbrev pub invariant-loop-text : goal.invariant-loop-text
invariant-loop-text l =
    (starts_after [] l.by_proxy (map (λ text. text.now) l.texts) ≡ starts_after l.starts.items l.by_proxy (map (λ text. text.now) (drop l.text-index l.texts)))
    × (list_any is_robots_file l.starts.items ≡ false)
