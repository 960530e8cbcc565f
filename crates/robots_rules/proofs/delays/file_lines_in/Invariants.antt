use Rattle.std.proofs.Common.{◌≡◌, map}
use Rattle.std.specs.List.{filter_map}
use Rattle.robots_rules.specs.Delays.{file_line_of}
use Rattle.robots_rules.specs.inner.DelayTally.{file_line_value}
use Rattle.robots_rules.proofs.delays.file_lines_in.Given as goal

abbrev pub invariant-loop-text : goal.invariant-loop-text
invariant-loop-text l = map file_line_value l.lines.items ≡ filter_map (λ text. file_line_of text.now) l.yielded
