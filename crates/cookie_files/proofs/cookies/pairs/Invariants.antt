use Rattle.std.proofs.Common.{◌≡◌, take}
use Rattle.cookie_files.specs.Matches.{IsClean, sent, value_of}
use Rattle.cookie_files.specs.inner.AskedView.{asked_value}
use Rattle.cookie_files.proofs.cookies.pairs.Given as goal

abbrev pub invariant-loop-cookie : goal.invariant-loop-cookie
invariant-loop-cookie l = record { value : l.text.items ≡ value_of (sent (asked_value l.asked) l.now (take l.cookie-index l.cookies)); clean : IsClean l.text.items }
