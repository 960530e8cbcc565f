-- What the peers of connections in memory answer, and what contracts see of these connections.
use Rattle.std.specs.Prelude.{ℕ, ◌+◌, ◌-◌, ◌^◌, ◌==◌, ◌&&◌, ◌||◌, nat_eq, Bool, true, false, min, List, [], ◌∷◌, ◌++◌, drop, length, bytes_eq, codes, Option, Some, None, option_map, if◌then◌else◌, Result, Ok, Err}
use Rattle.std.specs.List.{ends_with, find, list_any}
use Rattle.response_reader.specs.Request.{request_text, kept_request_text}
use Rattle.response_reader.specs.Wire.{counted, lost_by}
use Rattle.response_reader.specs.declared.wire.WireFault.{WireFault}
use Rattle.memory_connect.specs.declared.memory_connect.FailingPlace.{FailingPlace}
use Rattle.memory_connect.specs.declared.memory_connect.FailingPlace.TheVariants.{Connect, Call, Idle}
use Rattle.memory_connect.specs.declared.memory_connect.PlannedFailure.{PlannedFailure}
use Rattle.memory_connect.specs.declared.memory_connect.StoredAnswer.{StoredAnswer}

-- ---- what is answered

-- a request ends with an empty line (RFC 9112, section 2.1)
abbrev pub is_whole : List ℕ → Bool
is_whole request = ends_with nat_eq request (codes "\r\n\r\n")

-- the answer to a request that nothing is stored for
abbrev pub not_found_bytes : List ℕ
not_found_bytes = codes "HTTP/1.1 404 \r\nContent-Length: 0\r\n\r\n"

-- the bytes are a request for the address, of a connection that closes or of one that is kept
abbrev pub asks_for : List ℕ → List ℕ → Bool
asks_for at request = bytes_eq (request_text at) request || bytes_eq (kept_request_text at) request

-- the bytes that are stored for the first address that the request is for, or the answer that nothing is
unfoldable pub answer_to : List StoredAnswer → List ℕ → List ℕ
answer_to [] request = not_found_bytes
answer_to (stored ∷ more) request = if asks_for stored.at request then stored.bytes.items else answer_to more request

-- ---- which calls fail

-- no connection is made
abbrev pub is_connect : FailingPlace → Bool
is_connect Connect = true
is_connect (Call fault) = false
is_connect Idle = false

-- a connection dies while it is kept
abbrev pub is_death : FailingPlace → Bool
is_death Connect = false
is_death (Call fault) = false
is_death Idle = true

abbrev pub dies : List PlannedFailure → ℕ → Bool
dies failures connection = list_any (λ (p : PlannedFailure). p.connection == connection && is_death p.place) failures

-- the call of this number fails
abbrev pub is_call : ℕ → FailingPlace → Bool
is_call call Connect = false
is_call call (Call fault) = fault.call == call
is_call call Idle = false

abbrev pub planned_fault_at : FailingPlace → Option WireFault
planned_fault_at Connect = None
planned_fault_at (Call fault) = Some fault.fault
planned_fault_at Idle = None

abbrev pub planned_fault_of : Option FailingPlace → Option WireFault
planned_fault_of None = None
planned_fault_of (Some place) = planned_fault_at place

-- the connection of this number isn't made
abbrev pub is_connection_refused : List PlannedFailure → ℕ → Bool
is_connection_refused failures connection = list_any (λ (p : PlannedFailure). p.connection == connection && is_connect p.place) failures

-- the first place that is planned for a call on a connection
abbrev pub planned_place : List PlannedFailure → ℕ → ℕ → Option FailingPlace
planned_place failures connection call =
    option_map (λ (p : PlannedFailure). p.place) (find (λ (p : PlannedFailure). p.connection == connection && is_call call p.place) failures)

-- the fault that is planned for it
abbrev pub planned_for : List PlannedFailure → ℕ → ℕ → Option WireFault
planned_for failures connection call = planned_fault_of (planned_place failures connection call)

-- ---- what contracts see

-- the answers, the failures that are planned, the connection's number, what was written, what is still to be given once this is a
-- whole request, how many calls were made and how many failed, and whether one answered `Failed`
pub record Talk : Type 0 where
  pub answers : List StoredAnswer
  pub failures : List PlannedFailure
  pub connection : ℕ
  pub request : List ℕ
  pub rest : Option (List ℕ)
  pub calls : ℕ
  pub failed : ℕ
  pub lost : Bool

-- the answers, the failures that are planned, how many connections were requested, how many of them were refused, how often one
-- that was kept was taken, and the one that is kept, with its origin
pub record Site : Type 0 where
  pub answers : List StoredAnswer
  pub failures : List PlannedFailure
  pub made : ℕ
  pub refused : ℕ
  pub taken : ℕ
  pub kept : Option (List ℕ × Talk)

-- a connection that is kept: nothing of the next request was written, and nothing is known of its answer; one that dies gives its end
abbrev pub rested : Talk → Talk
rested t = record t { request = []; rest = if dies t.failures t.connection then Some [] else None }

-- the next connection, over which nothing was written yet
abbrev pub fresh : Site → Talk
fresh s = record {
  answers = s.answers;
  failures = s.failures;
  connection = s.made;
  request = [];
  rest = None;
  calls = 0;
  failed = 0;
  lost = false;
}

-- one more call
abbrev pub talk_called : Talk → Talk
talk_called t = record t { calls = min (t.calls + 1) (2 ^ 64 - 1) }

-- one more error
abbrev pub talk_erred : Talk → WireFault → Talk
talk_erred t f = record t { failed = counted t.failed 1; lost = lost_by t.lost f }

-- what is still to be given after a request: an answer that is fixed stays, and one is fixed if the request became whole
abbrev pub rest_after : Option (List ℕ) → List StoredAnswer → List ℕ → Option (List ℕ)
rest_after (Some rest) answers request = Some rest
rest_after None answers request = if is_whole request then Some (answer_to answers request) else None

-- the answer is fixed if what was written is a whole request
abbrev pub talk_settled : Talk → Talk
talk_settled t = record t { rest = rest_after t.rest t.answers t.request }

-- more was written
abbrev pub grown : Talk → List ℕ → Talk
grown t bytes = talk_settled (record t { request = t.request ++ bytes })

-- after a write of these bytes that answered so
abbrev pub talk_after_write : Talk → List ℕ → Result ℕ WireFault → Talk
talk_after_write t bytes (Ok n) = grown (talk_called t) bytes
talk_after_write t bytes (Err f) = talk_erred (talk_called t) f

-- how many bytes a read into so much room gives
abbrev pub given_of : Option (List ℕ) → ℕ → ℕ
given_of None room = 0
given_of (Some rest) room = min room (length rest)

-- so much was given
abbrev pub told : Option (List ℕ) → ℕ → Option (List ℕ)
told None n = None
told (Some rest) n = Some (drop n rest)

-- after a read that answered so
abbrev pub talk_after_read : Talk → Result ℕ WireFault → Talk
talk_after_read t (Ok n) = record (talk_called t) { rest = told t.rest n }
talk_after_read t (Err f) = talk_erred (talk_called t) f
