-- A record in mid-read: what is kept, and what a line more adds to it.
use Rattle.std.specs.Prelude.{◌≡◌, ◌≢◌, ◌⊎◌, ◌++◌, ◌+◌, ⊤, ℕ, List, [], ◌∷◌, Option, Some, None, Result, Ok, Err, MatchResult, IsSome, Bool, codes, if◌then◌else◌}
use Rattle.std.specs.List.{list_any}
use Rattle.std.specs.Map.{lookup}
use Rattle.indexmap.specs.IndexSet.{insert_key}
use Rattle.std.specs.Str.{bytes_eq}
use Rattle.kept_bodies.specs.Bodies.{BodyValue}
use Rattle.address.specs.Address.{AddressText, OriginText, origin_of, path_query_of}
use Rattle.robots_rules.specs.Access.{RuleSetValue}
use Rattle.fetcher.specs.declared.answer.Answer.{Answer}
use Rattle.answer_notes.specs.declared.noted.Noted.{Noted}
use Rattle.answer_notes.specs.HopChains.{HopValue}
use Rattle.site_inputs.specs.declared.input_fault.InputFault.{InputFault}
use Rattle.site_inputs.specs.declared.input_fault.InputLineFault.{InputLineFault}
use Rattle.site_inputs.specs.declared.input_fault.InputLineFault.TheVariants.{Line, Address, Memory}
use Rattle.site_inputs.specs.Faults.{numbered}
use Rattle.site_inputs.specs.Names.{recorded as named, IsRecorded as IsNamed}
use Rattle.site_records.specs.declared.entry_fault.EntryFault.{EntryFault}
use Rattle.site_records.specs.declared.entry_fault.EntryFault.TheVariants.{Own, Hop}
use Rattle.site_records.specs.declared.taken.Taken.{Taken}
use Rattle.site_records.specs.declared.reading.RecordReading.{RecordReading}
use Rattle.site_records.specs.EntryLines.{Statement, text_of, HopStatement, hop_text, chain, IsHopCount}
use Rattle.site_records.specs.Entries.{Entry, answered, ruled, chained, lines_of, States, IsAtRoot, IsRepeated, IsEntry, IsNew, IsMisplaced, IsBadLine, IsBadAddress, IsFormed, HasHopBytes, ReadsHop, IsBadHopLine, IsBadHopAddress, IsBadRow, IsBadBehind, LeadsOn}
use Rattle.site_records.specs.Received.{has_lost}
use Rattle.site_records.specs.Records.{answers_of, rules_of}
use Rattle.site_records.specs.WrittenEntries.{note_entry}
use Rattle.site_records.specs.inner.RecordNotes.{AddsNote}

-- the origins of which entries say that no response was received
abbrev pub lost_of : List Entry → List OriginText
lost_of [] = []
lost_of (answered at a ∷ more) = lost_of more
lost_of (ruled of r ∷ more) = (if r.closed then of ∷ [] else []) ++ lost_of more
lost_of (chained of hops ∷ more) = (if has_lost hops then of ∷ [] else []) ++ lost_of more

-- the origin is one of these
abbrev pub is_among : List OriginText → OriginText → Bool
is_among lost of = list_any (bytes_eq of) lost

-- these origins, and after them this one if no response was received of it and it isn't one of them
abbrev pub with_lost : List OriginText → Bool → OriginText → List OriginText
with_lost lost failed of = if failed then insert_key bytes_eq lost of else lost

-- these origins, and that of the entry if it says so of one
abbrev pub lost_with : List OriginText → Entry → List OriginText
lost_with lost (answered at a) = lost
lost_with lost (ruled of r) = with_lost lost r.closed of
lost_with lost (chained of hops) = with_lost lost (has_lost hops) of

-- the entry is kept after the others
pub record Keeps (old : RecordReading) (e : Entry) (new : RecordReading) : Type 0 where
  pub answers : new.answers.entries ≡ old.answers.entries ++ answers_of (e ∷ [])
  pub rules : new.rules.entries ≡ old.rules.entries ++ rules_of (e ∷ [])
  pub lost : new.lost.keys ≡ lost_with old.lost.keys e
  pub links : new.links ≡ old.links
  pub version : new.version ≡ old.version
  pub keeps_notes : new.keeps_notes ≡ old.keeps_notes
  pub noted : AddsNote old.keeps_notes old.links old.notes.items e new.notes.items
  pub is_new : IsNew old.answers.entries old.rules.entries e

-- the entry that the note is written as is kept after the others
abbrev pub KeepsNote : RecordReading → Noted → RecordReading → Type 0
KeepsNote old note new = Keeps old (note_entry old.links note) new

-- the text names no address, or one for which an answer is kept
abbrev pub IsStated : List (AddressText × Answer BodyValue) → List ℕ → InputLineFault → Type 0
IsStated answers text Line = IsNamed text × IsSome (lookup (bytes_eq (named text)) answers)
IsStated answers text Address = ¬ IsNamed text
IsStated answers text Memory = ⊤

-- the text names an address for which no answer is kept, or is refused
abbrev pub NamesUnstated : List (AddressText × Answer BodyValue) → List ℕ → Result AddressText InputLineFault → Type 0
NamesUnstated answers text result =
    MatchResult result (λ at. IsNamed text × (named text ≡ at) × (lookup (bytes_eq at) answers ≡ None)) (λ f. IsStated answers text f)

-- the text names no origin's `/`, or that of one for which rules are kept
abbrev pub IsRuled : List (OriginText × RuleSetValue) → List ℕ → InputLineFault → Type 0
IsRuled rules text Line = IsNamed text × ((path_query_of (named text) ≢ codes "/") ⊎ IsSome (lookup (bytes_eq (origin_of (named text))) rules))
IsRuled rules text Address = ¬ IsNamed text
IsRuled rules text Memory = ⊤

-- the text names the `/` of an origin for which no rules are kept, or is refused
abbrev pub NamesUnruled : List (OriginText × RuleSetValue) → List ℕ → Result OriginText InputLineFault → Type 0
NamesUnruled rules text result =
    MatchResult result
    (λ of. IsNamed text × (path_query_of (named text) ≡ codes "/") × (origin_of (named text) ≡ of) × (lookup (bytes_eq of) rules ≡ None))
    (λ f. IsRuled rules text f)

-- the line, and what follows it, are taken as this entry
pub record Adds (old : RecordReading) (s : Statement) (behind : List ℕ) (after : List ℕ) (new : RecordReading) : Type 0 where
  pub entry : Entry
  pub is_named : IsNamed (text_of s)
  pub at_root : IsAtRoot s
  pub states : States old.links s behind entry after
  pub keeps : Keeps old entry new

-- what is wrong with a line that says this
abbrev pub IsWrong : RecordReading → Statement → List ℕ → InputLineFault → Type 0
IsWrong old s behind Line = IsNamed (text_of s) × IsMisplaced old.answers.entries old.rules.entries s behind
IsWrong old s behind Address = ¬ IsNamed (text_of s)
IsWrong old s behind Memory = Unit {0}

-- ---- the hops of a chain

-- what is wrong with a line that says this of a hop, if the chain leads to this address
abbrev pub IsWrongHop : Option AddressText → HopStatement → List ℕ → InputLineFault → Type 0
IsWrongHop lead s behind Line = IsNamed (hop_text s) × ((lead ≢ Some (named (hop_text s))) ⊎ ¬ HasHopBytes s behind)
IsWrongHop lead s behind Address = ¬ IsNamed (hop_text s)
IsWrongHop lead s behind Memory = ⊤

-- the line of a hop, and what follows it, are taken as this hop, to which the chain leads
pub record AddsHop (lead : Option AddressText) (s : HopStatement) (behind : List ℕ) (h : HopValue) (after : List ℕ) : Type 0 where
  pub is_named : IsNamed (hop_text s)
  pub at : h.0 ≡ named (hop_text s)
  pub led : lead ≡ Some h.0
  pub tells : ReadsHop s behind h.1 after

-- what is wrong with the hop that the text begins with, if the chain leads to this address
abbrev pub IsBadHop : InputLineFault → Option AddressText → List ℕ → Type 0
IsBadHop Line lead text = IsBadHopLine lead text
IsBadHop Address lead text = IsBadHopAddress text
IsBadHop Memory lead text = ⊤

-- the text names the address to which a chain leads, or is refused for what is wrong with it
abbrev pub NamesDue : Option AddressText → List ℕ → Result AddressText InputLineFault → Type 0
NamesDue lead text (Ok at) = IsNamed text × (at ≡ named text) × (lead ≡ Some at)
NamesDue lead text (Err Line) = IsNamed text × (lead ≢ Some (named text))
NamesDue lead text (Err Address) = ¬ IsNamed text
NamesDue lead text (Err Memory) = ⊤

-- what is wrong with so many hops of an origin's chain: one of them is bad
abbrev pub IsWrongRow : OriginText → ℕ → List ℕ → EntryFault → Type 0
IsWrongRow of n behind (Own Memory) = ⊤
IsWrongRow of n behind (Own f) = ⊥
IsWrongRow of n behind (Hop k f) = IsBadRow of n behind k (IsBadHop f)

-- what is wrong with so many hops of an origin's chain: they lead on, or one of them is bad
abbrev pub IsWrongChain : OriginText → ℕ → List ℕ → EntryFault → Type 0
IsWrongChain of n behind (Own Line) = LeadsOn of n behind
IsWrongChain of n behind (Own Address) = ⊥
IsWrongChain of n behind (Own Memory) = ⊤
IsWrongChain of n behind (Hop k f) = IsBadRow of n behind k (IsBadHop f)

-- ---- a line of any kind

-- what is wrong with an entry whose line says this
abbrev pub IsWrongAt : RecordReading → Statement → List ℕ → EntryFault → Type 0
IsWrongAt old s behind (Own f) = IsWrong old s behind f
IsWrongAt old s behind (Hop k f) =
    IsNamed (text_of s) × IsAtRoot s × ¬ IsRepeated old.answers.entries old.rules.entries s × IsBadBehind s behind k (IsBadHop f)

-- the line, and what follows it, are taken as an entry of this many lines
pub record AddsLines (old : RecordReading) (s : Statement) (behind : List ℕ) (taken : Taken) (new : RecordReading) : Type 0 where
  pub adds : Adds old s behind taken.after.now new
  pub lines : taken.lines ≡ lines_of adds.entry

-- the entry of a line that says this is taken, or is refused for what is wrong with it
abbrev pub TakesEntry : RecordReading → Statement → List ℕ → Result Taken EntryFault → RecordReading → Type 0
TakesEntry old s behind result new = MatchResult result (λ taken. AddsLines old s behind taken new) (λ f. IsWrongAt old s behind f)

-- how many lines a fault of an entry is after the entry's own line
abbrev pub lines_to : EntryFault → ℕ
lines_to (Own f) = 0
lines_to (Hop k f) = k + 1

-- the fault of the entry whose own line has this number
abbrev pub fault_at : EntryFault → ℕ → InputFault
fault_at (Own f) number = numbered f number
fault_at (Hop k f) number = numbered f (number + k + 1)

-- ---- one entry more, as bytes

-- what is wrong with the entry that the text begins with
abbrev pub IsBad : RecordReading → List ℕ → EntryFault → Type 0
IsBad old text (Own Line) = IsBadLine old.version old.answers.entries old.rules.entries None text
IsBad old text (Own Address) = IsBadAddress old.version old.answers.entries old.rules.entries None text
IsBad old text (Own Memory) = IsFormed old.version text
IsBad old text (Hop k Line) = IsBadLine old.version old.answers.entries old.rules.entries (Some k) text
IsBad old text (Hop k Address) = IsBadAddress old.version old.answers.entries old.rules.entries (Some k) text
IsBad old text (Hop k Memory) = IsFormed old.version text

-- the text begins with this entry, which is kept and has so many lines, and after follows
pub record Reads (old : RecordReading) (text : List ℕ) (lines : ℕ) (after : List ℕ) (new : RecordReading) : Type 0 where
  pub entry : Entry
  pub is : IsEntry old.version old.links text entry after
  pub lines_are : lines ≡ lines_of entry
  pub keeps : Keeps old entry new

-- the number of lines that a line counts is one that a chain may have
abbrev pub IsCounted : Statement → Type 0
IsCounted (chain text n) = IsHopCount n
IsCounted s = ⊤
