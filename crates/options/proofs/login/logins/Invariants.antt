-- Those so far.
use Rattle.std.proofs.Common.{◌≡◌, map, take}
use Rattle.options.specs.Start.{typed_login}
use Rattle.options.proofs.login.logins.Given as goal

abbrev pub invariant-loop-start : goal.invariant-loop-start
invariant-loop-start l = l.logins.items ≡ map typed_login (map (λ text. text.now) (take l.start-index l.starts))
