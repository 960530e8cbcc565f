use Rattle.std.proofs.Common.{◌≡◌, true, false, rules, tests}
use Rattle.std.proofs.lemmas.Iterator.{IsFirst-from_position, YieldsList-from_slice}
use Rattle.tcp_connect.specs.Standing.{waits_for}
use Rattle.tcp_connect.proofs.StandingLaws.{first_from_tests}
use Rattle.tcp_connect.proofs.standing.first_waiting_for.Goals as goal

pub position-requires-clause-can : goal.position-requires-clause-can
position-requires-clause-can g c = tt

pub position-requires-clause-finite : goal.position-requires-clause-finite
position-requires-clause-finite g c = tt

pub returns : goal.returns
returns g c =
    let found = IsFirst-from_position _ _ _ (λ it. waits_for c.args.of.now it ≡ true) (λ it. waits_for c.args.of.now it ≡ false) c.position.ensures.ran (YieldsList-from_slice c.args.places.now cc)
    (λ x q k. search (rules, tests)) (λ x q k. search (rules, tests)) in
    first_from_tests (waits_for c.args.of.now) c.args.places.now c.position.result found
