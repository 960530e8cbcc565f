-- Regular expressions, with the syntax and the meaning of the kit's `regex` for bytes: its grammar reads a text as a pattern, and its textbook relation says which
-- parts of another text that matches.
use Rattle.std.specs.Prelude.{◌≡◌, ◌≤◌, ℕ, Bool, false, List, length, chars, Option, Some, None, option_map, is_some, IsCharBoundary, ⊤}
use Rattle.regex_hir.specs.Re.{Re}
use Rattle.regex_hir.specs.Matches.{Matches}
use Rattle.regex_hir.specs.Find.{find}
use Rattle.regex_syntax.specs.Verdict.{default_config, default_flags}
use Rattle.regex_syntax.specs.Brackets.{Nested}
use Rattle.regex_syntax.specs.Grammar.{Names, read}
use Rattle.regex_syntax.specs.declared.Config.{Config}
use Rattle.expressions.specs.declared.expression.ExpressionFault.{ExpressionFault}
use Rattle.expressions.specs.declared.expression.ExpressionFault.TheVariants.{Bad, Large, Memory}

-- how a text is read: letters, digits and white space are those of ASCII, as addresses are
abbrev pub byte_config : Config
byte_config = record default_config { flags = record default_flags { unicode = false }; utf8 = false }

-- the pattern, without how deep it is and the names of its groups
abbrev pub pattern_in : Option (Nested Re × Names) → Option Re
pattern_in None = None
pattern_in (Some found) = Some found.0.value

-- the pattern that a text spells, none if it is no expression
unfoldable pub expression_of : List ℕ → Option Re
expression_of text = pattern_in (read byte_config (chars text))

-- the text, if it is an expression: contracts see the expression as it
abbrev pub read_element : List ℕ → Option (List ℕ)
read_element text = option_map (λ pattern. text) (expression_of text)

-- the expression is found in the text: it matches a part of it
abbrev pub IsFoundIn : List ℕ → List ℕ → Type 0
IsFoundIn expression text = (re : Re) × (expression_of expression ≡ Some re) × (from to : ℕ) × (from ≤ length text) × Matches text re from to

-- the same of the pattern that was read, as a test
abbrev pub is_found_by : Option Re → List ℕ → Bool
is_found_by None text = false
is_found_by (Some re) text = is_some (find re text 0)

-- the expression is found in the text, as a test
unfoldable pub is_found : List ℕ → List ℕ → Bool
is_found expression text = is_found_by (expression_of expression) text

-- how large an expression is, and how much memory there is, isn't said
abbrev pub IsNoSyntax : ExpressionFault → Type 0
IsNoSyntax (Bad at) = ⊥
IsNoSyntax Large = ⊤
IsNoSyntax Memory = ⊤

-- The fault comes only where it may: Bad if the text is no expression, at a place between its characters. How large an expression is, and how much memory there is,
-- isn't said.
abbrev pub IsFaultOf : List ℕ → ExpressionFault → Type 0
IsFaultOf text (Bad at) = (expression_of text ≡ None) × IsCharBoundary text at
IsFaultOf text Large = ⊤
IsFaultOf text Memory = ⊤
