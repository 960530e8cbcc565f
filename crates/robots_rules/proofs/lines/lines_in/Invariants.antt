use Rattle.std.proofs.Common.{◌≡◌, map}
use Rattle.std.specs.List.{filter_map}
use Rattle.robots_rules.specs.Lines.{line_of}
use Rattle.robots_rules.specs.inner.LineView.{line_value}
use Rattle.robots_rules.proofs.lines.lines_in.Given as goal

abbrev pub invariant-loop-text : goal.invariant-loop-text
invariant-loop-text l = map line_value l.lines.items ≡ filter_map (λ text. line_of text.now) l.yielded
