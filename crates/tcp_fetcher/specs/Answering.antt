-- What is answered for a page, if an earlier run kept pages.
use Rattle.std.specs.Prelude.{◌≡◌, ◌⊎◌, ◌==◌, ℕ, Bool, true, false, List, Option, Some, None}
use Rattle.sha2.specs.Sha256.{sha256}
use Rattle.address.specs.Address.{AddressText}
use Rattle.body_digests.specs.Digests.{HoldsDigested}
use Rattle.body_digests.specs.declared.digesting.Digested.{Digested}
use Rattle.fetcher.specs.declared.answer.Answer.{Answer}
use Rattle.fetcher.specs.declared.fetcher.Ask.{Ask}
use Rattle.fetcher.specs.declared.fetcher.Ask.TheVariants as ask
use Rattle.fetcher.specs.declared.outcome.Outcome.{Outcome}
use Rattle.fetcher.specs.declared.outcome.Outcome.TheVariants.{Fault, Leaf, Moved, Page}
use Rattle.html_links.specs.declared.rules.LinkRules.{LinkRules}
use Rattle.http_fetcher.specs.Fetching.{Fetching, StandsForOne, with_condition}
use Rattle.http_fetcher.specs.Meanings.{MayAnswerWithin}
use Rattle.kept_bodies.specs.Bodies.{BodyValue}
use Rattle.mirror_index.specs.Entries.{Entry}
use Rattle.mirror_index.specs.declared.entry.Mark.{Mark}
use Rattle.mirror_index.specs.declared.entry.Mark.TheVariants.{Changed, Digest}
use Rattle.mirror_index.specs.Indexes.{HasThis}
use Rattle.earlier_pages.specs.Pages.{condition_by}
use Rattle.part_keeper.specs.Parts.{holds_part, holds_received}
use Rattle.part_keeper.specs.declared.part.KeptPart.{KeptPart}
use Rattle.pacing.specs.Retries.{Retried}
use Rattle.requests.specs.Conditions.{Condition}
use Rattle.requests.specs.Requests.{Sending}
use Rattle.response_reader.specs.Limits.{Limited}
use Rattle.retries.specs.Keeping.{MayKeep, StandsForAnswer, asks_of, is_worth_answer}
use Rattle.retries.specs.Tries.{IsLastOf}
use Rattle.tcp_connect.specs.Connecting.{Connecting}
use Rattle.tcp_fetcher.specs.PartsFetching.{MayAnswerIn, PartsSite}
use Rattle.tcp_fetcher.specs.TcpFetching.{TcpFetching, conditioned, last_loss, outcome_known}
use Rattle.earlier_runs.specs.declared.earlier.Earlier.{Earlier}

-- what requests leave as it is: all but the connections, and a condition of what is sent
pub record Lasting : Type 0 where
  pub links : LinkRules
  pub retries : Retried
  pub limits : Limited
  pub takes_times : Bool
  pub known : Option Earlier
  pub asks : List Ask
  pub sends : Option Sending

abbrev pub lasting : TcpFetching → Lasting
lasting f = record { links = f.links; retries = f.retries; limits = f.limits; takes_times = f.takes_times; known = f.known; asks = f.asks; sends = with_condition None f.sends }

-- what it asks
abbrev pub site_of : Lasting → PartsSite
site_of f = (f.links, f.limits)

-- the server said that the page is as it was (RFC 9110, section 15.4.5)
abbrev pub is_unchanged : Outcome → Bool
is_unchanged (Page status edges) = false
is_unchanged (Moved status target) = false
is_unchanged (Leaf status) = status == 304
is_unchanged (Fault kind) = false

-- a response of this status that is no redirect
abbrev pub has_status : Outcome → ℕ → Bool
has_status (Page status edges) said = status == said
has_status (Moved status target) said = false
has_status (Leaf status) said = status == said
has_status (Fault kind) said = false

-- an answer whose body was read from an earlier run's file
abbrev pub not_received : Answer KeptPart → Answer KeptPart
not_received answer = record { outcome = answer.outcome; body = record answer.body { is_received = false } }

-- an answer without the digest of its body
abbrev pub without_digest : Answer (Digested KeptPart) → Answer KeptPart
without_digest answer = record { outcome = answer.outcome; body = answer.body.kept }

-- a body has the digest of a mark; of a mark that is a time the file's own time shows it, before it is read
abbrev pub HasMark : Mark → Option (List ℕ) → Type 0
HasMark (Digest digest) own = own ≡ Some digest
HasMark (Changed time) own = Unit {0}

-- what is read again of an entry's page, into what keeps bodies so: a response of the entry's status, whose body has its mark
abbrev pub IsReadAgain : (KeptPart → BodyValue → Type 0) → Limited → LinkRules → AddressText → Entry → Answer (Digested KeptPart) → Type 0
IsReadAgain holds limits links at entry answer =
    HasMark entry.mark answer.body.digest × (has_status answer.outcome entry.head.status ≡ true) × StandsForAnswer (HoldsDigested holds) limits links at answer

-- bytes have the SHA-256 of a mark, if it has one
abbrev pub AreMarked : Mark → List ℕ → Type 0
AreMarked (Digest digest) bytes = sha256 bytes ≡ digest
AreMarked (Changed time) bytes = Unit {0}

-- the answer is one that the site may give, of the status that was recorded, and its body, which this run didn't receive, has the SHA-256 that
-- was recorded, or is that of a file with the time that was recorded
abbrev pub IsRecordedIn : PartsSite → AddressText → Entry → Answer KeptPart → Type 0
IsRecordedIn site at entry answer =
    (has_status answer.outcome entry.head.status ≡ true)
    × (answer.body.is_received ≡ false)
    × StandsForOne holds_part answer (λ real. MayAnswerWithin site.1 site.0 at real.outcome real.body × AreMarked entry.mark real.body.bytes)

-- the answer is one that the site may give, of this outcome, and this run didn't receive it
abbrev pub IsRepeatedIn : PartsSite → AddressText → Outcome → Answer KeptPart → Type 0
IsRepeatedIn site at outcome answer =
    (answer.outcome ≡ outcome) × (answer.body.is_received ≡ false) × StandsForAnswer holds_part site.1 site.0 at answer

module _ (fetcher : Lasting) (at : AddressText) where
  -- the answer is one that the site may give, and of which this holds
  abbrev pub IsAnswerWith : (Answer KeptPart → Type 0) → Answer KeptPart → Type 0
  IsAnswerWith Holds answer = MayAnswerIn (site_of fetcher) at answer.outcome answer.body × Holds answer

  -- the answer is what was recorded with an entry
  abbrev pub IsRecorded : Entry → Answer KeptPart → Type 0
  IsRecorded entry answer = IsRecordedIn (site_of fetcher) at entry answer

  -- from one of these to the other the network is asked with this condition alone, if there is one: once, or again if that is worth it. What
  -- is received last is the answer, whose body counts as received. What was sent last is what the other sends
  abbrev pub IsReceived : Option Condition → Fetching Connecting → Fetching Connecting → Answer KeptPart → Type 0
  IsReceived condition old new answer =
      (new.sends ≡ with_condition condition old.sends)
      × IsLastOf asks_of last_loss (MayKeep holds_received fetcher.limits at) (is_worth_answer fetcher.retries) (ask.Page at) fetcher.retries.most (conditioned condition old) new answer

  -- what was received for a request with a condition is the answer, unless the server said that the page is as it was: then that is what was
  -- recorded, or, if no file has its bytes any more, what is received without a condition
  abbrev pub IsConcluded : Entry → Answer KeptPart → Fetching Connecting → Fetching Connecting → Answer KeptPart → Type 0
  IsConcluded entry received old new answer =
      ((is_unchanged received.outcome ≡ false) × (answer ≡ received) × (new ≡ old))
      ⊎ ((is_unchanged received.outcome ≡ true) × IsRecorded entry answer × (new ≡ old))
      ⊎ ((is_unchanged received.outcome ≡ true) × IsReceived None old new answer)

  -- the page is requested with the condition of its own entry, and what is received last decides
  abbrev pub IsReceivedIfChanged : Entry → Fetching Connecting → Fetching Connecting → Answer KeptPart → Type 0
  IsReceivedIfChanged entry old new answer =
      (condition : Condition) × (condition_by entry ≡ Some condition)
      × (asked : Fetching Connecting) × (received : Answer KeptPart) × IsReceived (Some condition) old asked received
      × IsConcluded entry received asked new answer

  -- the network isn't asked: what was recorded is the answer
  abbrev pub IsLeft : Entry → Fetching Connecting → Fetching Connecting → Answer KeptPart → Type 0
  IsLeft entry old new answer = IsRecorded entry answer × (new ≡ old)

  -- the answer is by the entry of the address in an earlier run's index
  abbrev pub IsOfEarlier : Earlier → Fetching Connecting → Fetching Connecting → Answer KeptPart → Type 0
  IsOfEarlier earlier old new answer =
      (entry : Entry) × HasThis earlier.pages at entry
      × (((earlier.is_asked ≡ true) × IsReceivedIfChanged entry old new answer) ⊎ ((earlier.is_asked ≡ false) × IsLeft entry old new answer))

  -- the network isn't asked: the answer has the outcome that an earlier run received, which has no file
  abbrev pub IsRepeated : Fetching Connecting → Fetching Connecting → Answer KeptPart → Type 0
  IsRepeated old new answer =
      (outcome : Outcome) × (outcome_known fetcher.known at ≡ Some outcome) × IsRepeatedIn (site_of fetcher) at outcome answer × (new ≡ old)

  -- what is answered, by what is known of an earlier run: if nothing is, what is received last, without a condition
  abbrev pub IsAnsweredBy : Option Earlier → Fetching Connecting → Fetching Connecting → Answer KeptPart → Type 0
  IsAnsweredBy None old new answer = IsReceived None old new answer
  IsAnsweredBy (Some earlier) old new answer = IsReceived None old new answer ⊎ IsOfEarlier earlier old new answer

  abbrev pub IsAnswered : Fetching Connecting → Fetching Connecting → Answer KeptPart → Type 0
  IsAnswered old new answer = IsAnsweredBy fetcher.known old new answer ⊎ IsRepeated old new answer
