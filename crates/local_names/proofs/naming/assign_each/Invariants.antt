use Rattle.std.proofs.Common.{◌≡◌, map, length}
use Rattle.std.specs.BTreeMap.{get_by_text}
use Rattle.std.specs.String.{string_bytes}
use Rattle.local_names.proofs.NamingLaws.{Assigned}
use Rattle.local_names.proofs.naming.assign_each.Given as goal

abbrev pub invariant-loop-i : goal.invariant-loop-i
invariant-loop-i l =
    record {
      assigned : Assigned l.has_endings (map string_bytes l.plain) (map string_bytes l.names.items) (get_by_text l.next);
      count : length l.names.items ≡ l.i;
    }
