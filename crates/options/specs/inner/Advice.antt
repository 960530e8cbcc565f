-- What proofs alone need beside `Advice`.
use Rattle.options.specs.declared.advice.Advice.{Advice}
use Rattle.options.specs.declared.advice.Advice.TheVariants as advice
use Rattle.options.specs.Advice.{Told, Help, Version, Correction}

-- what an advice contains
abbrev pub told_by : Advice → Told
told_by advice.Help = Help
told_by advice.Version = Version
told_by (advice.Correction wrong accepted) = Correction wrong.now accepted.now
