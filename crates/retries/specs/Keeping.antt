-- Pages that are requested again and whose bodies are kept while they arrive.
use Rattle.std.specs.Prelude.{Bool, List, Option}
use Rattle.run_failures.specs.declared.loss_kind.LossKind.{LossKind}
use Rattle.address.specs.Address.{AddressText}
use Rattle.kept_bodies.specs.Bodies.{BodyValue}
use Rattle.fetcher.specs.declared.answer.Answer.{Answer}
use Rattle.fetcher.specs.declared.fetcher.Ask.{Ask}
use Rattle.http_fetcher.specs.Fetching.{Fetching, StandsForOne}
use Rattle.http_fetcher.specs.Meanings.{MayAnswerWithin}
use Rattle.pacing.specs.Retries.{Retried}
use Rattle.response_reader.specs.Limits.{Limited}
use Rattle.retries.specs.Worth.{is_worth_outcome}
use Rattle.html_links.specs.declared.rules.LinkRules.{LinkRules}

-- what was requested of a fetcher
abbrev pub asks_of : {C : Type 0} → Fetching C → List Ask
asks_of fetcher = fetcher.asks

-- why it lost its last connection, as what makes its connections has it
abbrev pub lost_of : {C : Type 0} → (C → Option LossKind) → Fetching C → Option LossKind
lost_of lost fetcher = lost fetcher.connect

-- the answer, whose body is kept somewhere, is one that a site may give for the address within these limits, if these links of pages are taken
abbrev pub StandsForAnswer : {B : Type 0} → (B → BodyValue → Type 0) → Limited → LinkRules → AddressText → Answer B → Type 0
StandsForAnswer holds limits links at answer = StandsForOne holds answer (λ real. MayAnswerWithin limits links at real.outcome real.body)

-- it is one that may be given to this fetcher
abbrev pub MayKeep : {C B : Type 0} → (B → BodyValue → Type 0) → Limited → AddressText → Fetching C → Answer B → Type 0
MayKeep holds limits at fetcher answer = StandsForAnswer holds limits fetcher.links at answer

-- the answer is worth another try, if this was the connection's loss
abbrev pub is_worth_answer : {B : Type 0} → Retried → Answer B → Option LossKind → Bool
is_worth_answer retries answer lost = is_worth_outcome retries answer.outcome lost
