-- Delays, tallied from the first line on.
use Rattle.std.specs.Prelude.{ℕ, Bool, true, false, ◌||◌, List, [], ◌∷◌, max, if◌then◌else◌}
use Rattle.robots_rules.specs.Lines.{agent, rule}
use Rattle.robots_rules.specs.Delays as values
use Rattle.robots_rules.specs.inner.LineView.{line_value}
use Rattle.robots_rules.specs.declared.delays.FileLine.{FileLine}
use Rattle.robots_rules.specs.declared.delays.FileLine.TheVariants as line
use Rattle.robots_rules.specs.declared.delays.Tally.{Tally}

-- the line as the definitions have it
abbrev pub file_line_value : FileLine → values.FileLine
file_line_value (line.Says said) = values.says (line_value said)
file_line_value (line.Delays nanos) = values.delays nanos

-- the longest delay of the group that is being read, if it is for us
abbrev pub counted : Bool → ℕ → ℕ
counted ours here = if ours then here else 0

-- the longest delay for us from here on: whether the group being read is for us, whether a rule came since its last user agent, and its
-- longest delay so far
unfoldable pub longest_from : (List ℕ → Bool) → Bool → Bool → ℕ → List values.FileLine → ℕ
longest_from names ours behind here [] = counted ours here
longest_from names ours behind here (values.says (agent name) ∷ lines) =
    if behind
    then max (counted ours here) (longest_from names (names name) false 0 lines)
    else longest_from names (names name || ours) false here lines
longest_from names ours behind here (values.says (rule stated) ∷ lines) = longest_from names ours true here lines
longest_from names ours behind here (values.delays stated ∷ lines) = longest_from names ours behind (max here stated) lines

-- the longest delay by a tally and the lines that follow
abbrev pub tallied : (List ℕ → Bool) → Tally → List values.FileLine → ℕ
tallied names tally lines = max tally.longest (longest_from names tally.is_ours tally.is_behind_rule tally.here lines)
