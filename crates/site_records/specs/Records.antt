-- What the bytes of a record say together, and the first fault.
use Rattle.std.specs.Prelude.{◌≡◌, ◌≢◌, ℕ, ◌+◌, ◌⊎◌, Option, Some, None, List, [], ◌∷◌, ◌++◌, unwrap_or, codes}
use Rattle.std.specs.Map.{lookup}
use Rattle.std.specs.Str.{bytes_eq}
use Rattle.kept_bodies.specs.Bodies.{BodyValue, no_body}
use Rattle.address.specs.Address.{AddressText, OriginText}
use Rattle.robots_rules.specs.Access.{RuleSetValue}
use Rattle.fetcher.specs.declared.answer.Answer.{Answer}
use Rattle.fetcher.specs.declared.outcome.Outcome.{Outcome}
use Rattle.fetcher.specs.declared.outcome.Outcome.TheVariants.{Leaf}
use Rattle.fetcher.specs.declared.status.TheConstants.{NOT_FOUND}
use Rattle.site_inputs.specs.declared.input_fault.InputFault.{InputFault}
use Rattle.site_inputs.specs.declared.input_fault.InputFault.TheVariants.{Line, Address, Memory}
use Rattle.site_inputs.specs.Tables.{rules_at}
use Rattle.answer_notes.specs.HopChains.{rules_of_hops}
use Rattle.site_records.specs.declared.version.Version.{Version}
use Rattle.site_records.specs.declared.version.Version.TheVariants.{First, Second}
use Rattle.site_records.specs.Entries.{Entry, answered, ruled, chained, lines_of, IsEntry, IsNew, IsBadLine, IsBadAddress, IsFormed}
use Rattle.html_links.specs.declared.rules.LinkRules.{LinkRules}

-- ---- what is stated

-- the answers that entries state
abbrev pub answers_of : List Entry → List (AddressText × Answer BodyValue)
answers_of [] = []
answers_of (answered at a ∷ more) = (at, a) ∷ answers_of more
answers_of (ruled of r ∷ more) = answers_of more
answers_of (chained of hops ∷ more) = answers_of more

-- the rule sets that entries state
abbrev pub rules_of : List Entry → List (OriginText × RuleSetValue)
rules_of [] = []
rules_of (answered at a ∷ more) = rules_of more
rules_of (ruled of r ∷ more) = (of, r) ∷ rules_of more
rules_of (chained of hops ∷ more) = (of, rules_of_hops hops) ∷ rules_of more

-- nothing is found, and there is no body (RFC 9110, section 15.5.5)
abbrev pub not_found : Answer BodyValue
not_found = record { outcome = Leaf NOT_FOUND; body = no_body }

-- what a record of these answers says of an address: what it states, and not found of an address that it doesn't name
abbrev pub answer_in : List (AddressText × Answer BodyValue) → AddressText → Answer BodyValue
answer_in answers at = unwrap_or (lookup (bytes_eq at) answers) not_found

-- the one answer of each address, and the one rule set of each origin
pub record RecordedAnswers : Type 0 where
  pub answer : AddressText → Answer BodyValue
  pub rules : OriginText → RuleSetValue

-- what a record of these answers and these rule sets says
abbrev pub says_of : List (AddressText × Answer BodyValue) → List (OriginText × RuleSetValue) → RecordedAnswers
says_of answers rules = record { answer = answer_in answers; rules = rules_at rules }

-- such a site gives an address its answer
abbrev pub GivesAnswer : RecordedAnswers → AddressText → Outcome → BodyValue → Type 0
GivesAnswer site at x body = (x ≡ (site.answer at).outcome) × (body ≡ (site.answer at).body)

-- such a site gives an origin its rule set
abbrev pub RecordGivesRules : RecordedAnswers → OriginText → RuleSetValue → Type 0
RecordGivesRules site of r = r ≡ site.rules of

-- ---- which bytes are a record

-- the first line of each version
abbrev pub version_line : Version → List ℕ
version_line First = codes "wgetr-record 1" ++ 10 ∷ []
version_line Second = codes "wgetr-record 2" ++ 10 ∷ []

-- the text is these entries, each about an address or an origin that those before it don't name, and then a rest
pub data IsFront (version : Version) (links : LinkRules) (text : List ℕ) : List Entry → List ℕ → Type 0 where
  none : IsFront version links text [] text
  next : (said : List Entry) (rest : List ℕ) (e : Entry) (after : List ℕ) → IsFront version links text said rest
      → IsEntry version links rest e after → IsNew (answers_of said) (rules_of said) e → IsFront version links text (said ++ e ∷ []) after

-- the bytes are a record of these entries: the first line of a version, and nothing but its entries after it
pub record IsRecord (links : LinkRules) (bytes : List ℕ) (said : List Entry) : Type 0 where
  pub version : Version
  pub text : List ℕ
  pub begins : bytes ≡ version_line version ++ text
  pub all : IsFront version links text said []

-- ---- the first fault

-- how many lines entries have
abbrev pub line_count : List Entry → ℕ
line_count [] = 0
line_count (e ∷ more) = lines_of e + line_count more

-- how many lines the bad line of an entry is after its own line: none, or that of the hop at this place
abbrev pub lines_ahead : Option ℕ → ℕ
lines_ahead None = 0
lines_ahead (Some k) = k + 1

-- after the good entries above it an entry is bad like this, in its own line or in a hop, and this is the number of that line
pub record FirstBad (links : LinkRules) (bytes : List ℕ) (number : ℕ) (IsBad : Version → List (AddressText × Answer BodyValue) → List (OriginText × RuleSetValue) → Option ℕ → List ℕ → Type 0) : Type 0 where
  pub version : Version
  pub text : List ℕ
  pub begins : bytes ≡ version_line version ++ text
  pub above : List Entry
  pub rest : List ℕ
  pub front : IsFront version links text above rest
  pub more : rest ≢ []
  pub place : Option ℕ
  pub count : number ≡ line_count above + 2 + lines_ahead place
  pub bad : IsBad version (answers_of above) (rules_of above) place rest

-- the bytes begin with the first line of a version
abbrev pub HasVersion : List ℕ → Type 0
HasVersion bytes = (version : Version) × (text : List ℕ) × (bytes ≡ version_line version ++ text)

-- what a fault says of the bytes: the first line, or a line of the first entry that is bad; memory may run out in an entry whose line has its form, or after the last entry
abbrev pub IsFault : LinkRules → List ℕ → InputFault → Type 0
IsFault links bytes (Line n) = ((n ≡ 1) × ¬ HasVersion bytes) ⊎ FirstBad links bytes n IsBadLine
IsFault links bytes (Address n) = FirstBad links bytes n IsBadAddress
IsFault links bytes Memory = ((n : ℕ) × FirstBad links bytes n (λ version _ _ _ rest. IsFormed version rest)) ⊎ ((said : List Entry) × IsRecord links bytes said)
