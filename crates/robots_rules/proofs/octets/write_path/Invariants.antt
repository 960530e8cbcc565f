use Rattle.std.proofs.Common.{◌≡◌, ◌≤◌, ◌++◌, length, take}
use Rattle.robots_rules.specs.Octets.{normal_path}
use Rattle.robots_rules.specs.inner.NormalTextView.{octets_of_text}
use Rattle.robots_rules.proofs.octets.write_path.Given as goal

abbrev pub invariant-loop-octet : goal.invariant-loop-octet
invariant-loop-octet l = record { within : l.len ≤ length l.buffer; written : take l.len l.buffer ++ octets_of_text l.rest ≡ normal_path l.fn.path }

abbrev pub decreases-loop-octet : goal.decreases-loop-octet
decreases-loop-octet l = length (octets_of_text l.rest)
