use Rattle.std.proofs.Common.{◌≡◌, drop, map}
use Rattle.std.specs.Str.{bytes_eq}
use Rattle.std.specs.List.{list_any}
use Rattle.html_links.proofs.context.is_among.Given as goal

abbrev pub invariant-loop-other : goal.invariant-loop-other
invariant-loop-other l = list_any (λ b. bytes_eq l.name b) (map (λ b. b.now) (drop l.other-index l.names)) ≡ list_any (λ b. bytes_eq l.name b) (map (λ b. b.now) l.names)
