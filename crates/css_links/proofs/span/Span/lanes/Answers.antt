use Rattle.std.proofs.Common.{◌||◌, ◌==◌}
use Rattle.css_links.specs.Bytes.{is_newline, is_white, is_unfit, is_loud}
use Rattle.css_links.specs.inner.Spans.{is, ends_span}
use Rattle.css_links.proofs.Vectors.{all_set}
use Rattle.css_links.proofs.span.Span.lanes.Goals.{in-Quiet, in-InSet, in-Plain, in-Name, in-Quoted, in-Unquoted, in-Bad}
use Rattle.css_links.proofs.span.Span.lanes.Goals as goal

pub returns : goal.returns
returns c =
    elim c.match-self.branch [
      | in-Quiet w ↦ rw (w.in-Quiet.is, w.result-is) w.loud_lanes.ensures
      | in-InSet w ↦
          rw (w.in-InSet.is, w.result-is) (w.either.ensures (is 41) is_loud c.args.bytes w.equal_to.ensures w.loud_lanes-in-InSet.ensures)
      | in-Plain w ↦ rw w.result-is (all_set (ends_span c.args.self) c.args.bytes)
      | in-Name w ↦ rw w.result-is (all_set (ends_span c.args.self) c.args.bytes)
      | in-Quoted w ↦
          rw (w.in-Quoted.is, w.result-is) (w.either-in-Quoted.ensures (is w.in-Quoted.quote) (λ b. is_newline b || b == 92) c.args.bytes w.equal_to-in-Quoted.ensures w.string_lanes.ensures)
      | in-Unquoted w ↦
          rw (w.in-Unquoted.is, w.result-is) (w.either-in-Unquoted.ensures (is 41) (λ b. is_white b || (b == 92 || is_unfit b)) c.args.bytes w.equal_to-in-Unquoted.ensures w.unquoted_lanes.ensures)
      | in-Bad w ↦
          rw (w.in-Bad.is, w.result-is) (w.either-in-Bad.ensures (is 41) (is 92) c.args.bytes w.equal_to-in-Bad.ensures w.equal_to-in-Bad-2.ensures)
    ]
