-- What a line of the code's own type says.
use Rattle.robots_rules.specs.Lines.{LineValue, agent, rule}
use Rattle.robots_rules.specs.declared.lines.Line.{Line}
use Rattle.robots_rules.specs.declared.lines.Line.TheVariants as line

-- the line as the definitions have it
abbrev pub line_value : Line → LineValue
line_value (line.Agent name) = agent name.now
line_value (line.Rule allows pattern) = rule (record { allows = allows; pattern = pattern.now })
