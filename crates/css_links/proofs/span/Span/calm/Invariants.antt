-- None of the bytes before the place ends the part.
use Rattle.std.proofs.Common.{◌≤◌, length, ◌-◌}
use Rattle.memchr.specs.Find.{Nowhere, Passes}
use Rattle.css_links.specs.inner.Spans.{ends_span}
use Rattle.css_links.proofs.span.Span.calm.Given as goal

abbrev pub invariant-loop-at : goal.invariant-loop-at
invariant-loop-at l = record {
  within : l.at ≤ length l.text;
  calm : Nowhere (Passes (ends_span l.self) l.text) 0 l.at;
}

abbrev pub decreases-loop-at : goal.decreases-loop-at
decreases-loop-at l = length l.text - l.at
