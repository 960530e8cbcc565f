-- What one entry of a record states: its line, and the bytes after it (RFC 9112, section 2; RFC 9309, section 2.3).
use Rattle.std.specs.Prelude.{◌≡◌, ◌≢◌, ◌<◌, ⊤, ℕ, ◌+◌, ◌++◌, length, Option, ◌⊎◌, ◌==◌, false, true, List, [], ◌∷◌, Some, IsSome, None, take, drop, slice_get, codes}
use Rattle.std.specs.List.{position}
use Rattle.std.specs.Map.{lookup}
use Rattle.std.specs.Str.{bytes_eq}
use Rattle.kept_bodies.specs.Bodies.{BodyValue, no_body}
use Rattle.address.specs.Address.{AddressText, OriginText, origin_of, path_query_of}
use Rattle.robots_rules.specs.Access.{RuleSetValue}
use Rattle.robots_rules.specs.Groups.{rules_in}
use Rattle.response_reader.specs.Response.{ResponseParts, BeginsWithResponse}
use Rattle.response_reader.specs.Limits.{standard}
use Rattle.response_reader.specs.ReadFaults.{IsReadFault, IsTextFault}
use Rattle.response_reader.specs.declared.fault.ReadFault.{ReadFault}
use Rattle.fetcher.specs.declared.answer.Answer.{Answer}
use Rattle.fetcher.specs.declared.fault_kind.FaultKind.{FaultKind}
use Rattle.fetcher.specs.declared.outcome.Outcome.TheVariants.{Fault}
use Rattle.response_answer.specs.Digests.{digest_of, body_of}
use Rattle.response_answer.specs.KindsOfFaults.{kind_of_fault}
use Rattle.answer_notes.specs.RobotsAnswers.{max_redirects}
use Rattle.answer_notes.specs.Received.{received_target}
use Rattle.answer_notes.specs.HopChains.{HopValue, IsAdmitted, robots_file}
use Rattle.answer_notes.specs.declared.received.Received.{Received}
use Rattle.answer_notes.specs.declared.received.Received.TheVariants as received
use Rattle.site_records.specs.declared.version.Version.{Version}
use Rattle.site_inputs.specs.Names.{recorded as named, IsRecorded as IsNamed}
use Rattle.site_records.specs.EntryLines.{Statement, page, fault, file, free, closed, chain, HasForm, text_of, HopStatement, hop, hopfault, HasHopForm, hop_text}
use Rattle.html_links.specs.declared.rules.LinkRules.{LinkRules}

-- what an entry states
pub data Entry : Type 0 where
  -- the address has this answer
  answered : AddressText → Answer BodyValue → Entry
  -- the origin has these rules
  ruled : OriginText → RuleSetValue → Entry
  -- the robots file of the origin, and the redirects after it, have these answers
  chained : OriginText → List HopValue → Entry

-- how many lines an entry has: its own, and one for each hop
abbrev pub lines_of : Entry → ℕ
lines_of (answered at a) = 1
lines_of (ruled of r) = 1
lines_of (chained of hops) = length hops + 1

-- ---- what bytes answer

-- the answer without a response
abbrev pub no_response : FaultKind → Answer BodyValue
no_response kind = record { outcome = Fault kind; body = no_body }

-- the bytes begin with a response, and the answer is its digest
pub record IsDigest (links : LinkRules) (at : AddressText) (bytes : List ℕ) (a : Answer BodyValue) : Type 0 where
  pub response : ResponseParts
  pub begins : BeginsWithResponse response bytes
  pub outcome : a.outcome ≡ digest_of links at response
  pub body : a.body ≡ body_of response.head response.body

-- the bytes have a fault for which no response is read of them, and the answer is this fault
pub record IsRefusal (bytes : List ℕ) (a : Answer BodyValue) : Type 0 where
  pub fault : ReadFault
  pub kind : FaultKind
  pub text : IsTextFault fault
  pub of_bytes : IsReadFault standard fault bytes
  pub kind_is : kind_of_fault fault ≡ Some kind
  pub answer : a ≡ no_response kind

-- what bytes answer as the response for an address
abbrev pub IsReadAs : LinkRules → AddressText → List ℕ → Answer BodyValue → Type 0
IsReadAs links at bytes a = IsDigest links at bytes a ⊎ IsRefusal bytes a

-- ---- the text of an entry

-- the text has a first line, and this follows its line feed
pub record IsLine (text line behind : List ℕ) : Type 0 where
  pub place : ℕ
  pub first : position (λ b. b == 10) text ≡ Some place
  pub line_is : line ≡ take place text
  pub behind_is : behind ≡ drop (place + 1) text

-- the text begins with this many bytes and a line feed, and this follows it
pub record HasBytes (text : List ℕ) (n : ℕ) (bytes after : List ℕ) : Type 0 where
  pub ends : slice_get text n ≡ Some 10
  pub bytes_are : bytes ≡ take n text
  pub after_is : after ≡ drop (n + 1) text

-- ---- the hops of a chain

-- what bytes contain as the response for a hop: a response that they begin with, or the fault by which none is read
abbrev pub IsReceivedIn : List ℕ → Received → Type 0
IsReceivedIn bytes (received.Whole response) = BeginsWithResponse response bytes
IsReceivedIn bytes (received.Fault kind) = (f : ReadFault) × IsTextFault f × IsReadFault standard f bytes × (kind_of_fault f ≡ Some kind)

-- a line that says this of a hop and what follows it contain this, and then `after` follows
abbrev pub ReadsHop : HopStatement → List ℕ → Received → List ℕ → Type 0
ReadsHop (hop text n) behind said after = (bytes : List ℕ) × HasBytes behind n bytes after × IsReceivedIn bytes said
ReadsHop (hopfault kind text) behind said after = (after ≡ behind) × (said ≡ received.Fault kind)

-- the text begins with this hop, and after follows
pub record IsHop (text : List ℕ) (h : HopValue) (after : List ℕ) : Type 0 where
  pub line : List ℕ
  pub behind : List ℕ
  pub says : HopStatement
  pub is_line : IsLine text line behind
  pub form : HasHopForm line says
  pub is_named : IsNamed (hop_text says)
  pub at : h.0 ≡ named (hop_text says)
  pub tells : ReadsHop says behind h.1 after

-- the text is these hops, and then a rest
pub data AreHopsOf (text : List ℕ) : List HopValue → List ℕ → Type 0 where
  no_hops : AreHopsOf text [] text
  more_hops : (hops : List HopValue) (rest : List ℕ) (h : HopValue) (after : List ℕ) → AreHopsOf text hops rest → IsHop rest h after
      → AreHopsOf text (hops ++ h ∷ []) after

-- where a chain leads from this address on: after its last hop, the target of its redirect
abbrev pub due : Option AddressText → List HopValue → Option AddressText
due from [] = from
due from (h ∷ hops) = due (received_target h.0 h.1) hops

-- each hop is where the chain leads
abbrev pub AreLed : Option AddressText → List HopValue → Type 0
AreLed from [] = ⊤
AreLed from (h ∷ hops) = (from ≡ Some h.0) × AreLed (received_target h.0 h.1) hops

-- the first address of an origin's chain
abbrev pub chain_start : OriginText → Option AddressText
chain_start of = Some (robots_file of)

-- this many hops of an origin's chain are there, each where the chain leads, and `after` follows
pub record IsBegun (of : OriginText) (text : List ℕ) (hops : List HopValue) (after : List ℕ) : Type 0 where
  pub are : AreHopsOf text hops after
  pub led : AreLed (chain_start of) hops

-- ---- what a line states

-- a line that says this and what follows it state the entry, and then `after` follows
abbrev pub States : LinkRules → Statement → List ℕ → Entry → List ℕ → Type 0
States links (page text n) behind e after =
    (bytes : List ℕ) × (a : Answer BodyValue) × HasBytes behind n bytes after × IsReadAs links (named text) bytes a × (e ≡ answered (named text) a)
States links (fault kind text) behind e after = (after ≡ behind) × (e ≡ answered (named text) (no_response kind))
States links (file text n) behind e after =
    (bytes : List ℕ) × HasBytes behind n bytes after × (e ≡ ruled (origin_of (named text)) (rules_in bytes))
States links (free text) behind e after = (after ≡ behind) × (e ≡ ruled (origin_of (named text)) (record { closed = false; rules = [] }))
States links (closed text) behind e after = (after ≡ behind) × (e ≡ ruled (origin_of (named text)) (record { closed = true; rules = [] }))
States links (chain text n) behind e after =
    (hops : List HopValue) × AreHopsOf behind hops after × (length hops ≡ n) × IsAdmitted (origin_of (named text)) hops × (e ≡ chained (origin_of (named text)) hops)

-- the address of rules is its origin's `/`, without a query
abbrev pub IsAtRoot : Statement → Type 0
IsAtRoot (page text n) = Unit {0}
IsAtRoot (fault kind text) = Unit {0}
IsAtRoot s = path_query_of (named (text_of s)) ≡ codes "/"

-- the text begins with an entry of this version that states this, and after follows
pub record IsEntry (version : Version) (links : LinkRules) (text : List ℕ) (e : Entry) (after : List ℕ) : Type 0 where
  pub line : List ℕ
  pub behind : List ℕ
  pub says : Statement
  pub is_line : IsLine text line behind
  pub form : HasForm version line says
  pub is_named : IsNamed (text_of says)
  pub at_root : IsAtRoot says
  pub states : States links says behind e after

-- ---- what is stated once more

-- the entry is about an address, or an origin, that these answers and rules don't name
abbrev pub IsNew : List (AddressText × Answer BodyValue) → List (OriginText × RuleSetValue) → Entry → Type 0
IsNew answers rules (answered at a) = lookup (bytes_eq at) answers ≡ None
IsNew answers rules (ruled of r) = lookup (bytes_eq of) rules ≡ None
IsNew answers rules (chained of hops) = lookup (bytes_eq of) rules ≡ None

-- the line is about an address, or an origin, that they name
abbrev pub IsRepeated : List (AddressText × Answer BodyValue) → List (OriginText × RuleSetValue) → Statement → Type 0
IsRepeated answers rules (page text n) = IsSome (lookup (bytes_eq (named text)) answers)
IsRepeated answers rules (fault kind text) = IsSome (lookup (bytes_eq (named text)) answers)
IsRepeated answers rules s = IsSome (lookup (bytes_eq (origin_of (named (text_of s)))) rules)

-- ---- what is wrong with an entry

-- the bytes that a line counts are there, and a line feed after them
abbrev pub HasItsBytes : Statement → List ℕ → Type 0
HasItsBytes (page text n) behind = slice_get behind n ≡ Some 10
HasItsBytes (file text n) behind = slice_get behind n ≡ Some 10
HasItsBytes s behind = Unit {0}

-- the text begins with a line of this version that says this, and `behind` follows
pub record Begins (version : Version) (text : List ℕ) (s : Statement) (behind : List ℕ) : Type 0 where
  pub line : List ℕ
  pub is_line : IsLine text line behind
  pub form : HasForm version line s

-- so many hops of an origin's chain are there, and the last redirects, though one more redirect may be followed
abbrev pub LeadsOn : OriginText → ℕ → List ℕ → Type 0
LeadsOn of n behind =
    (hops : List HopValue) × (after : List ℕ) × IsBegun of behind hops after
    × (length hops ≡ n) × (n < max_redirects + 1) × IsSome (due (chain_start of) hops)

-- the hops that a line counts lead on
abbrev pub IsOpen : Statement → List ℕ → Type 0
IsOpen (chain text n) behind = LeadsOn (origin_of (named text)) n behind
IsOpen s behind = ⊥

-- what is wrong with a line that says this, beyond its form and its address: the place of a robots address, a repetition, bytes that aren't there, or a chain that leads on
abbrev pub IsMisplaced : List (AddressText × Answer BodyValue) → List (OriginText × RuleSetValue) → Statement → List ℕ → Type 0
IsMisplaced answers rules s behind = ¬ IsAtRoot s ⊎ (IsRepeated answers rules s ⊎ (¬ HasItsBytes s behind ⊎ IsOpen s behind))

-- ---- what is wrong with a hop

-- the text begins with a line that says this of a hop, and `behind` follows
pub record BeginsHop (text : List ℕ) (s : HopStatement) (behind : List ℕ) : Type 0 where
  pub line : List ℕ
  pub is_line : IsLine text line behind
  pub form : HasHopForm line s

-- the bytes that a hop's line counts are there, and a line feed after them
abbrev pub HasHopBytes : HopStatement → List ℕ → Type 0
HasHopBytes (hop text n) behind = slice_get behind n ≡ Some 10
HasHopBytes (hopfault kind text) behind = ⊤

-- if a chain leads to this address, the text begins with no hop's line, or with one of another address or whose bytes aren't there
abbrev pub IsBadHopLine : Option AddressText → List ℕ → Type 0
IsBadHopLine lead text =
    ((s : HopStatement) (behind : List ℕ) → ¬ BeginsHop text s behind)
    ⊎ ((s : HopStatement) × (behind : List ℕ) × BeginsHop text s behind × IsNamed (hop_text s) × ((lead ≢ Some (named (hop_text s))) ⊎ ¬ HasHopBytes s behind))

-- the text begins with a hop's line whose address is refused
abbrev pub IsBadHopAddress : List ℕ → Type 0
IsBadHopAddress text = (s : HopStatement) × (behind : List ℕ) × BeginsHop text s behind × ¬ IsNamed (hop_text s)

-- of this many hops of an origin's chain those before this place are good, and what follows is bad like this where the chain leads
abbrev pub IsBadRow : OriginText → ℕ → List ℕ → ℕ → (Option AddressText → List ℕ → Type 0) → Type 0
IsBadRow of n behind k IsBad =
    (hops : List HopValue) × (rest : List ℕ) × IsBegun of behind hops rest
    × (length hops ≡ k) × (k < n) × IsBad (due (chain_start of) hops) rest

-- the same of the hops that a line counts
abbrev pub IsBadBehind : Statement → List ℕ → ℕ → (Option AddressText → List ℕ → Type 0) → Type 0
IsBadBehind (chain text n) behind k IsBad = IsBadRow (origin_of (named text)) n behind k IsBad
IsBadBehind s behind k IsBad = ⊥

-- the text begins with a chain's line that is good by itself, and the hop at this place is bad so
abbrev pub HasBadHop : Version → List (AddressText × Answer BodyValue) → List (OriginText × RuleSetValue) → ℕ → List ℕ → (Option AddressText → List ℕ → Type 0) → Type 0
HasBadHop version answers rules k text IsBad =
    (s : Statement) × (behind : List ℕ) × Begins version text s behind × IsNamed (text_of s) × IsAtRoot s × ¬ IsRepeated answers rules s × IsBadBehind s behind k IsBad

-- ---- what is wrong with an entry: with its own line, or with the hop at a place of its chain

-- the line has no form or is misplaced below these answers and rules; the hop has no form, or isn't where the chain leads, or its bytes aren't there
abbrev pub IsBadLine : Version → List (AddressText × Answer BodyValue) → List (OriginText × RuleSetValue) → Option ℕ → List ℕ → Type 0
IsBadLine version answers rules None text =
    ((s : Statement) (behind : List ℕ) → ¬ Begins version text s behind)
    ⊎ ((s : Statement) × (behind : List ℕ) × Begins version text s behind × IsNamed (text_of s) × IsMisplaced answers rules s behind)
IsBadLine version answers rules (Some k) text = HasBadHop version answers rules k text IsBadHopLine

-- the line, or the hop, has a form, and its address is refused
abbrev pub IsBadAddress : Version → List (AddressText × Answer BodyValue) → List (OriginText × RuleSetValue) → Option ℕ → List ℕ → Type 0
IsBadAddress version answers rules None text = (s : Statement) × (behind : List ℕ) × Begins version text s behind × ¬ IsNamed (text_of s)
IsBadAddress version answers rules (Some k) text = HasBadHop version answers rules k text (λ lead rest. IsBadHopAddress rest)

-- the text begins with a line that has a form
abbrev pub IsFormed : Version → List ℕ → Type 0
IsFormed version text = (s : Statement) × (behind : List ℕ) × Begins version text s behind
