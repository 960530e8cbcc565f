use Rattle.std.proofs.Common.{◌≡◌, ◌≤◌, min, drop}
use Rattle.std.specs.Str.Parse.{digits_value, digits_value_after}
use Rattle.robots_rules.proofs.seconds.seconds_in.Given as goal

abbrev pub invariant-loop-octet : goal.invariant-loop-octet
invariant-loop-octet l =
    record {
      few : l.seconds ≤ 60;
      so : min (digits_value_after 10 l.seconds (drop l.octet-index l.digits)) 60 ≡ min (digits_value 10 l.digits) 60;
    }
