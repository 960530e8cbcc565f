-- The value goes on as far as the search has come.
use Rattle.std.proofs.Common.{◌≡◌, ◌++◌, take, drop}
use Rattle.html_links.specs.Pieces.{until, from, ends_bare_value}
use Rattle.page_links.proofs.bytes.split_bare.Given as goal

abbrev pub invariant-loop-i : goal.invariant-loop-i
invariant-loop-i l = record {
  front : until ends_bare_value l.text ≡ take l.i l.text ++ until ends_bare_value (drop l.i l.text);
  left : from ends_bare_value l.text ≡ from ends_bare_value (drop l.i l.text);
}
