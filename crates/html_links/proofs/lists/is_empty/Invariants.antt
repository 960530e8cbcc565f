use Rattle.std.proofs.Common.{◌≡◌, ◌==◌, drop}
use Rattle.std.specs.List.{list_all}
use Rattle.html_links.proofs.lists.is_empty.Given as goal

abbrev pub invariant-loop-byte : goal.invariant-loop-byte
invariant-loop-byte l = list_all (λ b. b == 44) (drop l.byte-index l.list) ≡ list_all (λ b. b == 44) l.list
