-- The element's text goes on as far as the search has come.
use Rattle.std.proofs.Common.{◌≡◌, ◌++◌, take, drop}
use Rattle.html_links.specs.Markup.{style, raw_text}
use Rattle.page_links.proofs.sheet.split_sheet.Given as goal

abbrev pub invariant-loop-i : goal.invariant-loop-i
invariant-loop-i l = raw_text style l.text ≡ take l.i l.text ++ raw_text style (drop l.i l.text)
