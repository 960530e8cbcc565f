-- The whole entries at the front of a record that was cut at any byte, for example because its writer was stopped.
use Rattle.std.specs.Prelude.{◌≡◌, ◌≢◌, ◌≤◌, ◌+◌, ◌⊎◌, ◌++◌, ℕ, zero, suc, List, [], ◌∷◌, Option, length, map, flat_map, take, drop}
use Rattle.kept_bodies.specs.Bodies.{BodyValue}
use Rattle.address.specs.Address.{AddressText, OriginText}
use Rattle.robots_rules.specs.Access.{RuleSetValue}
use Rattle.fetcher.specs.declared.answer.Answer.{Answer}
use Rattle.site_inputs.specs.declared.input_fault.InputFault.{InputFault}
use Rattle.site_inputs.specs.declared.input_fault.InputFault.TheVariants.{Line, Address, Memory}
use Rattle.answer_notes.specs.declared.noted.Noted.{Noted}
use Rattle.site_records.specs.declared.version.Version.{Version}
use Rattle.site_records.specs.declared.version.Version.TheVariants.{Second}
use Rattle.site_records.specs.EntryLines.{Statement, page, file, chain, HopStatement, hop, hopfault}
use Rattle.site_records.specs.Entries.{Entry, IsLine, HasBytes, Begins, BeginsHop, IsBadLine, IsBadAddress, IsFormed}
use Rattle.site_records.specs.RecordSites.{RecordValue}
use Rattle.site_records.specs.Records.{answers_of, rules_of, version_line, IsFront, HasVersion, FirstBad}
use Rattle.site_records.specs.WrittenEntries.{note_text, note_entry}
use Rattle.html_links.specs.declared.rules.LinkRules.{LinkRules}

-- the text has no line feed
abbrev pub HasNoLine : List ℕ → Type 0
HasNoLine text = (line behind : List ℕ) → ¬ IsLine text line behind

-- the bytes that a hop's line counts, and the line feed after them, go beyond the end; or they are there, and this holds of what follows
abbrev pub RunsOutIn : HopStatement → List ℕ → (List ℕ → Type 0) → Type 0
RunsOutIn (hop text n) behind Runs = (length behind ≤ n) ⊎ ((bytes : List ℕ) × (after : List ℕ) × HasBytes behind n bytes after × Runs after)
RunsOutIn (hopfault kind text) behind Runs = Runs behind

-- by what their lines count, the text ends within one of so many hops
abbrev pub IsTornRow : ℕ → List ℕ → Type 0
IsTornRow zero text = ⊥
IsTornRow (suc n) text = HasNoLine text ⊎ ((s : HopStatement) × (behind : List ℕ) × BeginsHop text s behind × RunsOutIn s behind (IsTornRow n))

-- the bytes that a line counts, and the line feed after them, go beyond the end; or one of the hops that it counts does
abbrev pub RunsOut : Statement → List ℕ → Type 0
RunsOut (page text n) behind = length behind ≤ n
RunsOut (file text n) behind = length behind ≤ n
RunsOut (chain text n) behind = IsTornRow n behind
RunsOut s behind = ⊥

-- by what its lines count, the text ends within the entry of this version that it begins with
abbrev pub IsTornEntry : Version → List ℕ → Type 0
IsTornEntry version text = HasNoLine text ⊎ ((s : Statement) × (behind : List ℕ) × Begins version text s behind × RunsOut s behind)

-- the bytes are the first line of a version, these entries, each about an address or an origin that those before it don't name, and a rest within which the next one is torn
pub record HasFront (links : LinkRules) (bytes : List ℕ) (said : List Entry) (rest : List ℕ) : Type 0 where
  pub version : Version
  pub text : List ℕ
  pub begins : bytes ≡ version_line version ++ text
  pub front : IsFront version links text said rest
  pub torn : IsTornEntry version rest

-- the bytes end within the first line of version 2
abbrev pub IsTornFirst : List ℕ → Type 0
IsTornFirst bytes = ¬ HasVersion bytes × ((more : List ℕ) × (version_line Second ≡ bytes ++ more))

-- the site is what the whole entries at the front of a record state, which have so many bytes with the first line
abbrev pub IsFrontRead : LinkRules → List ℕ → RecordValue → ℕ → Type 0
IsFrontRead links bytes site len =
    ((said : List Entry) × (rest : List ℕ) × HasFront links bytes said rest × (len + length rest ≡ length bytes)
    × (site ≡ record { answers = answers_of said; rules = rules_of said; notes = []; asks = [] }))
    ⊎ (IsTornFirst bytes × (len ≡ 0) × (site ≡ record { answers = []; rules = []; notes = []; asks = [] }))

-- the entry is bad so, and the text doesn't end within it
abbrev pub IsBadWhole : (Version → List (AddressText × Answer BodyValue) → List (OriginText × RuleSetValue) → Option ℕ → List ℕ → Type 0)
    → Version → List (AddressText × Answer BodyValue) → List (OriginText × RuleSetValue) → Option ℕ → List ℕ → Type 0
IsBadWhole IsBad version answers rules place rest = IsBad version answers rules place rest × ¬ IsTornEntry version rest

-- what a fault says of the bytes: the first line, unless it is torn, or a line of the first entry that is bad and not torn; memory may run out over an entry whose line has its form, or after the last whole one
abbrev pub IsFrontFault : LinkRules → List ℕ → InputFault → Type 0
IsFrontFault links bytes (Line n) = ((n ≡ 1) × ¬ HasVersion bytes × ((more : List ℕ) → version_line Second ≢ bytes ++ more)) ⊎ FirstBad links bytes n (IsBadWhole IsBadLine)
IsFrontFault links bytes (Address n) = FirstBad links bytes n (IsBadWhole IsBadAddress)
IsFrontFault links bytes Memory =
    ((n : ℕ) × FirstBad links bytes n (λ version _ _ _ rest. IsFormed version rest))
    ⊎ (((said : List Entry) × (rest : List ℕ) × HasFront links bytes said rest) ⊎ IsTornFirst bytes)

-- ---- a record that is cut

-- the text is a proper front of what is written of the first of these notes, or it is empty and there are none
abbrev pub IsFrontOfFirst : List ℕ → List Noted → Type 0
IsFrontOfFirst torn [] = torn ≡ []
IsFrontOfFirst torn (note ∷ notes) = (more : List ℕ) × (torn ++ more ≡ note_text note) × (more ≢ [])

-- a record of these notes that is cut anywhere after its first line is the whole entries of the first of them, and a proper front of the next
abbrev pub IsReadCut : LinkRules → List Noted → Type 0
IsReadCut links notes =
    (front behind : List ℕ) → front ++ behind ≡ flat_map note_text notes
    → (k : ℕ) × (torn : List ℕ) × HasFront links (version_line Second ++ front) (map (note_entry links) (take k notes)) torn × IsFrontOfFirst torn (drop k notes)
