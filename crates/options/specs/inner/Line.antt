-- What proofs alone need beside `Line`.
use Rattle.std.specs.Prelude.{Option, Some, None, bytes_eq, if◌then◌else◌}
use Rattle.clap.specs.Walk.{Rule, Text}

-- the long form of an option of this name, unless the name is the short form
abbrev pub long_form : Text → Text → Option Text
long_form name short = if bytes_eq name short then None else Some name

-- the rule with a long form, if there is one
abbrev pub with_long_form : Option Text → Rule → Rule
with_long_form None rule = rule
with_long_form (Some name) rule = record rule { long = Some name }
