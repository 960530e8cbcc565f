use Rattle.std.proofs.Common.{◌+◌, ◌-◌, ◌*◌, length}
use Rattle.part_match.proofs.Decided.{State, tries}
use Rattle.part_match.proofs.matcher.matches.Given as goal

abbrev pub invariant-loop-octet : goal.invariant-loop-octet
invariant-loop-octet g l = State g.P.Part.is_run g.P.Part.takes g.T.Text.octets l.parts l.fn.text l.at l.rest l.last_run

-- the places after the last run that are left, and for each of them the parts that are left
abbrev pub decreases-loop-octet : goal.decreases-loop-octet
decreases-loop-octet g l =
    tries g.T.Text.octets l.last_run (length (g.T.Text.octets l.fn.text)) * (length l.parts + 1) + (length l.parts - l.at)
