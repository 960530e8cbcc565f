use Rattle.std.proofs.Common.{◌≡◌, ◌<◌, ◌++◌, ◌^◌, take, codes}
use Rattle.std.specs.Str.Parse.{digits_value}
use Rattle.robots_rules.proofs.seconds.nanos_in.Given as goal

abbrev pub invariant-loop-place : goal.invariant-loop-place
invariant-loop-place l =
    record {
      few : l.nanos < 10 ^ l.place;
      so : l.nanos ≡ digits_value 10 (take l.place (l.digits ++ codes "000000000"));
    }
