use Rattle.std.proofs.Common.{◌≡◌, drop}
use Rattle.std.specs.Str.{bytes_eq}
use Rattle.std.specs.List.{list_any}
use Rattle.html_links.specs.Asked.{asked_name}
use Rattle.html_links.proofs.asked.find.Given as goal

abbrev pub invariant-loop-asked : goal.invariant-loop-asked
invariant-loop-asked l = list_any (λ n. bytes_eq l.name (asked_name n)) (drop l.asked-index l.names) ≡ list_any (λ n. bytes_eq l.name (asked_name n)) l.names
