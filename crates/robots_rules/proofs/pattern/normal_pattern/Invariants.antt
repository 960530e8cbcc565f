use Rattle.std.proofs.Common.{◌≡◌, ◌++◌, length}
use Rattle.robots_rules.specs.Octets.{normal_pattern}
use Rattle.robots_rules.specs.inner.NormalTextView.{octets_of_text}
use Rattle.robots_rules.proofs.pattern.normal_pattern.Given as goal

abbrev pub invariant-loop-octet : goal.invariant-loop-octet
invariant-loop-octet l = l.octets.items ++ octets_of_text l.rest ≡ normal_pattern l.pattern

abbrev pub decreases-loop-octet : goal.decreases-loop-octet
decreases-loop-octet l = length (octets_of_text l.rest)
