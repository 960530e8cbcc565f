-- The part goes on as far as the search has come.
use Rattle.std.proofs.Common.{◌≡◌, ◌++◌, take, drop}
use Rattle.html_links.specs.Pieces.{until, from}
use Rattle.html_links.specs.inner.Spans.{ends_span}
use Rattle.html_links.proofs.bytes.TagSpan.split.Given as goal

abbrev pub invariant-loop-i : goal.invariant-loop-i
invariant-loop-i l = record {
  front : until (ends_span l.self) l.text ≡ take l.i l.text ++ until (ends_span l.self) (drop l.i l.text);
  left : from (ends_span l.self) l.text ≡ from (ends_span l.self) (drop l.i l.text);
}
