-- Why a value is no expression.
use Rattle.std.specs.Prelude.{◌≡◌, ◌⊎◌, Option, None, true}
use Rattle.clap.specs.Walk.{Text}
use Rattle.options.specs.Asked.{without_kind}
use Rattle.options.specs.Sought.{IsUnsaid}
use Rattle.options.specs.declared.fault.LineFault.{LineFault}
use Rattle.options.specs.declared.fault.LineFault.TheVariants as fault

-- what was read for it is none, or there is no memory, or it would cost too much
abbrev pub IsFaultOfValue : Option Text → LineFault → Type 0
IsFaultOfValue read why = ((without_kind why ≡ fault.Expression 0) × (read ≡ None)) ⊎ IsUnsaid true why
