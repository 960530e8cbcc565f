-- What proofs alone need beside `Chains`.
use Rattle.std.specs.Prelude.{◌≡◌, ◌<◌, ℕ, Some}
use Rattle.address.specs.Address.{AddressText}
use Rattle.answer_notes.specs.Received.{received_target, received_rules}
use Rattle.answer_notes.specs.HopChains.{EndsChain}
use Rattle.answer_notes.specs.declared.received.Received.{Received}
use Rattle.http_fetcher.specs.declared.chain.Hop.{Hop}
use Rattle.http_fetcher.specs.declared.chain.Hop.TheVariants.{Next, Last}

-- what was received for an address says this if so many more redirects may be followed: the next address, or rules
abbrev pub IsHopReceived : AddressText → Received → ℕ → Hop → Type 0
IsHopReceived at received left (Next next) = (0 < left) × (received_target at received ≡ Some next)
IsHopReceived at received left (Last rules) = EndsChain left (received_target at received) × (rules ≡ received_rules received)
