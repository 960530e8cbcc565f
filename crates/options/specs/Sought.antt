-- Expressions that are looked for in addresses, as they are typed (GNU Wget manual, section Types of Files).
use Rattle.std.specs.Prelude.{◌≡◌, ◌⊎◌, Bool, true, false, List, [], ◌∷◌, ◌++◌, ◌&&◌, ◌||◌, Option, Some, None, bytes_eq, codes, option_map, if◌then◌else◌}
use Rattle.clap.specs.Walk.{Text}
use Rattle.expressions.specs.Expressions.{read_element}
use Rattle.options.specs.declared.fault.LineFault.{LineFault}
use Rattle.options.specs.declared.fault.LineFault.TheVariants as fault

-- the text that is read for an expression: a flag in front says that letters match in either case
abbrev pub cased : Bool → Text → Text
cased ignores_case text = if ignores_case then codes "(?i)" ++ text else text

-- the expression of a value, if there is one; none if it is none
abbrev pub expressions_by : Bool → Option Text → Option (List Text)
expressions_by ignores_case None = Some []
expressions_by ignores_case (Some text) = option_map (λ expression. expression ∷ []) (read_element (cased ignores_case text))

-- the value of `--regex-type` is one that it may have, or it isn't given
abbrev pub is_type : Option Text → Bool
is_type None = true
is_type (Some value) = bytes_eq value (codes "posix") || bytes_eq value (codes "pcre")

-- a fault that no meaning of the words says: memory ran out, or, if there is an expression, one would cost too much
abbrev pub IsUnsaid : Bool → LineFault → Type 0
IsUnsaid seeks why = (why ≡ fault.Memory) ⊎ ((why ≡ fault.LargeExpression) × (seeks ≡ true))
