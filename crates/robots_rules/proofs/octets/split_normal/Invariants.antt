use Rattle.std.proofs.Common.{◌≡◌, ◌≤◌, ◌-◌, ◌++◌, length, take}
use Rattle.robots_rules.specs.Octets.{normal_path}
use Rattle.robots_rules.specs.inner.NormalTextView.{octets_of_text}
use Rattle.robots_rules.proofs.octets.split_normal.Given as goal

abbrev pub invariant-loop-len : goal.invariant-loop-len
invariant-loop-len l = record { within : l.len ≤ length l.bytes; whole : normal_path l.fn.path ≡ take l.len l.bytes ++ octets_of_text l.rest }

abbrev pub decreases-loop-len : goal.decreases-loop-len
decreases-loop-len l = length l.bytes - l.len
