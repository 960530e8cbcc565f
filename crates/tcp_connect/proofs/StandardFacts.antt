-- The limit on connections is the documented number.
use Rattle.std.proofs.Common.{◌≡◌, refl}
use Rattle.tcp_connect.specs.declared.standing.TheConstants.{MOST}

-- the most that are open at one time
most_stand : MOST ≡ 64
most_stand = refl
