-- The starts of the links so far.
use Rattle.std.proofs.Common.{◌≡◌, option_map, take}
use Rattle.std.specs.List.{flat_map}
use Rattle.start_lists.specs.Lists.{link_starts}
use Rattle.start_lists.proofs.html.starts_of_links.Given as goal

abbrev pub invariant-loop-link : goal.invariant-loop-link
invariant-loop-link l = l.starts.items ≡ flat_map (link_starts l.by_proxy (option_map (λ b. b.now) l.base)) (take l.link-index l.links)
