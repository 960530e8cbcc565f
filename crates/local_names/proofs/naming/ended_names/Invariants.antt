use Rattle.std.proofs.Common.{◌≡◌, map, take, All}
use Rattle.std.specs.String.{string_bytes}
use Rattle.address.specs.Address.{IsAddress}
use Rattle.local_names.specs.Endings.{ended_names}
use Rattle.local_names.proofs.naming.ended_names.Given as goal

abbrev pub invariant-loop-i : goal.invariant-loop-i
invariant-loop-i l =
    record {
      names : map string_bytes l.plain.items ≡ ended_names l.rules (take l.i l.pages) l.kinds;
      addresses : All IsAddress (take l.i l.pages);
    }
