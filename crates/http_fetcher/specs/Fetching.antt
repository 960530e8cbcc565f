-- What contracts see of a fetcher that asks over connections, and how its answers come.
use Rattle.std.specs.Prelude.{◌≡◌, ◌⊎◌, ◌==◌, ℕ, Bool, true, false, List, Option, Some, None, option_map}
use Rattle.std.specs.Io.KnownBytes.{Appends, IsAtEnd, Keeps}
use Rattle.address.specs.Address.{AddressText, OriginText, origin_of}
use Rattle.response_reader.specs.Wire.{HasRisen, IsLostInTime, OfBytes, counted}
use Rattle.response_reader.specs.Request.{request_text, kept_request_text}
use Rattle.requests.specs.Conditions.{Condition}
use Rattle.requests.specs.Requests.{Sending, request_of}
use Rattle.response_reader.specs.Reusable.{Reusable}
use Rattle.response_reader.specs.Limits.{Limited}
use Rattle.response_reader.specs.Response.{ResponseParts, BeginsWithin}
use Rattle.response_reader.specs.ReadFaults.{IsReadFault}
use Rattle.response_reader.specs.declared.fault.ReadFault.{ReadFault}
use Rattle.response_reader.specs.declared.fault.ReadFault.TheVariants as read
use Rattle.response_reader.specs.declared.wire.Wire.{Ghosts as Wires}
use Rattle.kept_bodies.specs.Bodies.{BodyValue, no_body}
use Rattle.fetcher.specs.declared.answer.Answer.{Answer}
use Rattle.fetcher.specs.declared.fault_kind.FaultKind.{FaultKind}
use Rattle.fetcher.specs.declared.fault_kind.FaultKind.TheVariants as kind
use Rattle.fetcher.specs.declared.fetcher.Ask.{Ask}
use Rattle.fetcher.specs.declared.outcome.Outcome.{Outcome}
use Rattle.fetcher.specs.declared.outcome.Outcome.TheVariants.{Fault, Leaf, Moved, Page}
use Rattle.answer_notes.specs.Received.{received_outcome, received_body}
use Rattle.answer_notes.specs.declared.noted.Noted.{Noted}
use Rattle.answer_notes.specs.declared.received.Received.{Received}
use Rattle.response_answer.specs.Digests.{digest_of, body_of}
use Rattle.response_answer.specs.KindsOfFaults.{kind_of_fault}
use Rattle.connect.specs.declared.connect.Connect.{Ghosts as Connects}
use Rattle.html_links.specs.declared.rules.LinkRules.{LinkRules}

-- what makes its connections, which links of pages it takes, whether connections are kept, what it sends besides the usual, what was asked,
-- whether notes are taken, and these
pub record Fetching (C : Type 0) : Type 0 where
  pub connect : C
  pub links : LinkRules
  pub keeps : Bool
  pub sends : Option Sending
  pub asks : List Ask
  pub is_recording : Bool
  pub notes : List Noted

-- what is sent, with this condition; the usual fields have none
abbrev pub with_condition : Option Condition → Option Sending → Option Sending
with_condition condition sends = option_map (λ (s : Sending). record s { condition = condition }) sends

-- an address that is requested, which links of a page are taken, whether the connection is to be kept, what is sent, and how long the
-- response may be
pub record Question : Type 0 where
  pub at : AddressText
  pub links : LinkRules
  pub keeps : Bool
  pub sends : Option Sending
  pub limits : Limited

-- the question by which such a fetcher requests an address, within these limits
abbrev pub question_of : {C : Type 0} → Limited → Fetching C → AddressText → Question
question_of limits fetcher at = record { at = at; links = fetcher.links; keeps = fetcher.keeps; sends = fetcher.sends; limits = limits }

-- what was received for an address, as an answer
abbrev pub received_answer : LinkRules → AddressText → Received → Answer BodyValue
received_answer links at received = record { outcome = received_outcome links at received; body = received_body received }

-- an answer, whose body is kept somewhere, represents this one
abbrev pub IsKeptAs : {B : Type 0} → (B → BodyValue → Type 0) → Answer B → Answer BodyValue → Type 0
IsKeptAs holds kept real = (kept.outcome ≡ real.outcome) × holds kept.body real.body

-- P holds of some answer that this one represents
abbrev pub StandsForOne : {B : Type 0} → (B → BodyValue → Type 0) → Answer B → (Answer BodyValue → Type 0) → Type 0
StandsForOne holds kept P = (real : Answer BodyValue) × IsKeptAs holds kept real × P real

-- the answer is the digest of the response that begins the bytes, within these limits
abbrev pub IsDigestOf : Limited → LinkRules → AddressText → Outcome → BodyValue → List ℕ → Type 0
IsDigestOf limits links at x body bytes =
    (r : ResponseParts) × BeginsWithin limits r bytes × (x ≡ digest_of links at r) × (body ≡ body_of r.head r.body)

-- the answer is a fault of the bytes, in which no response was read; a lost connection is one only if the count of failed calls rose
abbrev pub IsFaultOfBytes : Limited → ℕ → ℕ → Answer BodyValue → List ℕ → Type 0
IsFaultOfBytes limits before after answer bytes =
    (fault : ReadFault) × (kind : FaultKind) × (kind_of_fault fault ≡ Some kind) × IsReadFault limits fault bytes
    × (fault ≡ read.Device → HasRisen before after) × (answer.outcome ≡ Fault kind) × (answer.body ≡ no_body)

-- the answer is what the bytes say
abbrev pub AnswersBytes : Question → ℕ → ℕ → Answer BodyValue → List ℕ → Type 0
AnswersBytes question before after answer bytes =
    IsDigestOf question.limits question.links question.at answer.outcome answer.body bytes ⊎ IsFaultOfBytes question.limits before after answer bytes

-- no connection was made
abbrev pub NoConnectionMade : ℕ → ℕ → Answer BodyValue → Type 0
NoConnectionMade before after answer = HasRisen before after × (answer.outcome ≡ Fault kind.Connect) × (answer.body ≡ no_body)

-- the request couldn't be written, since the wire failed
abbrev pub RequestUnwritten : ℕ → ℕ → Answer BodyValue → Type 0
RequestUnwritten before after answer = HasRisen before after × (answer.outcome ≡ Fault kind.Device) × (answer.body ≡ no_body)

-- the answer is the status with which a server gives up waiting for a request (RFC 9110, section 15.5.9)
abbrev pub is_given_up : Outcome → Bool
is_given_up (Page status edges) = false
is_given_up (Moved status target) = false
is_given_up (Leaf status) = status == 408
is_given_up (Fault kind) = false

-- the request for an address with the usual fields, which asks to close the connection unless it is kept
abbrev pub usual_request : Bool → AddressText → List ℕ
usual_request true at = kept_request_text at
usual_request false at = request_text at

-- the request for an address: the usual one, or one with what is sent in its place, whose secret lines go to origins of starts alone
abbrev pub request_by : Option Sending → Bool → AddressText → List ℕ
request_by None keeps at = usual_request keeps at
request_by (Some sending) keeps at = request_of sending keeps at

module _ {W : Type 0} (wires : Wires W) where
  -- over a wire the request was written, and nothing was read
  abbrev pub IsAsked : Question → W → W → Type 0
  IsAsked question given asked =
      Appends (wires.outgoing given) (wires.outgoing asked) (request_by question.sends question.keeps question.at) × Keeps (wires.incoming given) (wires.incoming asked)

  -- the answer came over a wire: its request was written and nothing after it, and the answer is what then came over the wire
  abbrev pub ComesOver : Question → W → Answer BodyValue → Type 0
  ComesOver question given answer =
      (asked : W) × (left : W)
      × (RequestUnwritten (wires.failed given) (wires.failed left) answer
      ⊎ (IsAsked question given asked × Keeps (wires.outgoing asked) (wires.outgoing left)
      × OfBytes (wires.incoming asked) (AnswersBytes question (wires.failed asked) (wires.failed left) answer)))

  -- the same over a wire that was given for the address's origin
  abbrev pub ComesOverOneOf : (OriginText → W → Type 0) → Question → Answer BodyValue → Type 0
  ComesOverOneOf gives question answer = (given : W) × gives (origin_of question.at) given × ComesOver question given answer

  -- over a wire the request went out, or couldn't be written, and no byte came back: it had ended, or failed, and not since a time
  -- limit ran out
  abbrev pub IsUnansweredOn : Question → W → Type 0
  IsUnansweredOn question given =
      (asked : W) × (left : W)
      × (IsLostInTime (wires.failed given) (wires.failed left) (wires.timed_out left)
      ⊎ (IsAsked question given asked × Keeps (wires.incoming asked) (wires.incoming left)
      × (IsAtEnd (wires.incoming asked) ⊎ IsLostInTime (wires.failed asked) (wires.failed left) (wires.timed_out left))))

  -- over a wire came the answer of a server that had given up waiting for the request
  abbrev pub IsGivenUpOn : Question → W → Type 0
  IsGivenUpOn question given =
      (answer : Answer BodyValue) × (is_given_up answer.outcome ≡ true) × ComesOver question given answer

  -- over a wire came no answer, or that one: the question may be put once more over a new one
  abbrev pub AllowsRetry : Question → W → Type 0
  AllowsRetry question given = IsUnansweredOn question given ⊎ IsGivenUpOn question given

  -- the same over a wire that had served before
  abbrev pub AllowsRetryOnOneOf : (OriginText → W → Type 0) → Question → Type 0
  AllowsRetryOnOneOf stands question = (given : W) × stands (origin_of question.at) given × AllowsRetry question given

  -- over a wire the request was written and nothing after it, and its response was read to its last byte, with none after it, and leaves the connection usable
  abbrev pub LeavesUsable : Question → W → W → Type 0
  LeavesUsable question given left =
      (asked : W) × IsAsked question given asked × Keeps (wires.outgoing asked) (wires.outgoing left) × Reusable question.limits (wires.incoming asked) (wires.incoming left) true

-- the same with what makes the connections, if these are the limits of a response
module _ {C W : Type 0} (connects : Connects C W) (wires : Wires W) (limits : Limited) where
  -- a wire is a connection to this origin that a question left usable, kept since
  abbrev pub IsKeptAfter : Question → OriginText → W → Type 0
  IsKeptAfter question of wire =
      (of ≡ origin_of question.at) × (question.keeps ≡ true)
      × (given : W) × (left : W) × LeavesUsable wires question given left × connects.again left wire

  -- a connection that is kept after a question was kept before it, or was kept by it
  abbrev pub StandsBy : Fetching C → Fetching C → AddressText → Type 0
  StandsBy old new at =
      (of : OriginText) (wire : W) → connects.stands new.connect of wire
      → connects.stands old.connect of wire ⊎ IsKeptAfter (question_of limits old at) of wire

  -- the same of some questions
  abbrev pub StandsBehind : Fetching C → Fetching C → Type 0
  StandsBehind old new =
      (of : OriginText) (wire : W) → connects.stands new.connect of wire
      → connects.stands old.connect of wire ⊎ ((at : AddressText) × IsKeptAfter (question_of limits old at) of wire)

  -- an answer comes over a connection that was kept, and no other is requested: it isn't that of a server that had given up waiting
  abbrev pub AnsweredOnKept : Fetching C → Fetching C → AddressText → Answer BodyValue → Type 0
  AnsweredOnKept old new at answer =
      (connects.made new.connect ≡ connects.made old.connect)
      × (connects.taken new.connect ≡ counted (connects.taken old.connect) 1) × (old.keeps ≡ true)
      × (is_given_up answer.outcome ≡ false)
      × ComesOverOneOf wires (connects.stands old.connect) (question_of limits old at) answer

  -- no connection was taken that was kept, or one over which no byte came, or the answer of a server that had given up waiting
  abbrev pub NoAnswerOnKept : Fetching C → Fetching C → AddressText → Type 0
  NoAnswerOnKept old new at =
      (connects.taken new.connect ≡ connects.taken old.connect)
      ⊎ ((connects.taken new.connect ≡ counted (connects.taken old.connect) 1) × (old.keeps ≡ true)
      × AllowsRetryOnOneOf wires (connects.stands old.connect) (question_of limits old at))

  -- no connection was made, or an answer comes over one that was
  abbrev pub AnsweredOnNew : Fetching C → Fetching C → AddressText → Answer BodyValue → Type 0
  AnsweredOnNew old new at answer =
      NoConnectionMade (connects.refused old.connect) (connects.refused new.connect) answer
      ⊎ ComesOverOneOf wires (connects.gives old.connect) (question_of limits old at) answer

  -- an answer comes over a connection that was kept, and no other is requested; or one more is requested, once, and before it
  -- none was taken, or one over which no byte came, or the answer of a server that had given up waiting
  abbrev pub AnsweredWithRetry : Fetching C → Fetching C → AddressText → Answer BodyValue → Type 0
  AnsweredWithRetry old new at answer =
      AnsweredOnKept old new at answer
      ⊎ ((connects.made new.connect ≡ counted (connects.made old.connect) 1) × NoAnswerOnKept old new at × AnsweredOnNew old new at answer)

  -- the same at some time, by what asks as this fetcher does
  abbrev pub IsGiven : Fetching C → AddressText → Outcome → BodyValue → Type 0
  IsGiven fetcher at x body =
      (by : C) × (after : C)
      × AnsweredWithRetry (record fetcher { connect = by }) (record fetcher { connect = after }) at (record { outcome = x; body = body })
