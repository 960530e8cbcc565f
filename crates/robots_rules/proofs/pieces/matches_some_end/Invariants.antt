use Rattle.std.proofs.Common.{◌≡◌, length}
use denote.Shadow.{shadow}
use denote.Text.{Utf8}
use Rattle.part_match.specs.Cuts.{is_match, some_end}
use Rattle.robots_rules.specs.Patterns.{is_run, takes}
use Rattle.robots_rules.proofs.pieces.matches_some_end.Given as goal

abbrev pub invariant-loop-piece : goal.invariant-loop-piece
invariant-loop-piece l =
    record {
      parts_are_text : shadow (Utf8 l.parts);
      path_is_text : shadow (Utf8 l.path);
      answer : some_end (is_match is_run takes l.parts) l.path ≡ some_end (is_match is_run takes l.fn.parts) l.fn.path;
    }

abbrev pub decreases-loop-piece : goal.decreases-loop-piece
decreases-loop-piece l = length l.parts
