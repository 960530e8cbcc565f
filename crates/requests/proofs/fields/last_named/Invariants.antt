-- The value so far, and what is left.
use Rattle.std.proofs.Common.{◌≡◌, None, drop, option_map, string_bytes}
use Rattle.requests.specs.Fields.{last_named}
use Rattle.requests.proofs.fields.last_named.Given as goal

abbrev pub invariant-loop-field : goal.invariant-loop-field
invariant-loop-field l = last_named l.name (option_map string_bytes l.value) (drop l.field-index l.fields) ≡ last_named l.name None l.fields
