use Rattle.std.proofs.Common.{◌≡◌, drop}
use Rattle.html_links.specs.Rules.{ends_scheme, without_passed}
use Rattle.html_links.proofs.relative.ends_scheme.Given as goal

abbrev pub invariant-loop-byte : goal.invariant-loop-byte
invariant-loop-byte l = ends_scheme (without_passed (drop l.byte-index l.text)) ≡ ends_scheme (without_passed l.text)
