-- The origins so far, and those that are left.
use Rattle.std.proofs.Common.{◌≡◌, ◌++◌, ◌∷◌, length}
use Rattle.options.specs.Order.{homes_of}
use Rattle.options.proofs.homes.homes_of.Given as goal

abbrev pub invariant-starts : goal.invariant-starts
invariant-starts l = l.homes.items ++ homes_of l.left l.rest ≡ homes_of (l.start ∷ l.others) l.logins

abbrev pub decreases-starts : goal.decreases-starts
decreases-starts l = length l.left
