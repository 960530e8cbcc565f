-- What is left is a front of the text, and its last byte that ends the part is the text's.
use Rattle.std.proofs.Common.{◌≡◌, ◌++◌, length, drop, reverse}
use Rattle.css_links.specs.inner.Spans.{from, ends_span}
use Rattle.css_links.proofs.span.Span.split_end.Given as goal

abbrev pub invariant-loop-front : goal.invariant-loop-front
invariant-loop-front l = record {
  whole : l.front ++ drop (length l.front) l.text ≡ l.text;
  ends : from (ends_span l.self) (reverse l.front) ≡ from (ends_span l.self) (reverse l.text);
}

abbrev pub decreases-loop-front : goal.decreases-loop-front
decreases-loop-front l = length l.front
