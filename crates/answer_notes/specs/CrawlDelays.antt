-- How long the robots file of an origin has its crawlers wait between two requests to the origin, in nanoseconds.
use Rattle.std.specs.Prelude.{ℕ, List, [], ◌∷◌, if◌then◌else◌}
use Rattle.robots_rules.specs.Delays.{crawl_delay_in}
use Rattle.fetcher.specs.Statuses.{is_successful}
use Rattle.answer_notes.specs.HopChains.{HopValue}
use Rattle.answer_notes.specs.declared.received.Received.{Received}
use Rattle.answer_notes.specs.declared.received.Received.TheVariants.{Whole, Fault}

-- what the body says, if the status is one of success: else there is no such file
abbrev pub delay_by_status : ℕ → List ℕ → ℕ
delay_by_status status file = if is_successful status then crawl_delay_in file else 0

-- what the received response says, if there is one
abbrev pub received_delay : Received → ℕ
received_delay (Whole response) = delay_by_status response.head.status response.body
received_delay (Fault kind) = 0

-- what the end of the hops says
abbrev pub delay_of_hops : List HopValue → ℕ
delay_of_hops [] = 0
delay_of_hops (hop ∷ []) = received_delay hop.1
delay_of_hops (hop ∷ next ∷ more) = delay_of_hops (next ∷ more)
