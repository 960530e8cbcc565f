use Rattle.std.proofs.Common.{◌≡◌, map, take, All}
use Rattle.std.specs.String.{string_bytes}
use Rattle.address.specs.Address.{IsAddress}
use Rattle.local_names.specs.PlainNames.{plain_name_of}
use Rattle.local_names.proofs.naming.plain_names.Given as goal

abbrev pub invariant-loop-page : goal.invariant-loop-page
invariant-loop-page l =
    record {
      names : map string_bytes l.plain.items ≡ map (plain_name_of l.rules) (take l.page-index l.pages);
      addresses : All IsAddress (take l.page-index l.pages);
    }
