-- No start so far has credentials for the address.
use Rattle.std.proofs.Common.{◌≡◌, length}
use Rattle.requests.specs.Requests.{login_at}
use Rattle.requests.proofs.sending.login_at.Given as goal

abbrev pub invariant-homes : goal.invariant-homes
invariant-homes l = login_at l.rest l.at ≡ login_at l.homes l.at

abbrev pub decreases-homes : goal.decreases-homes
decreases-homes l = length l.rest
