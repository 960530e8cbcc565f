-- A map in mid-read: what is kept, and the lines that it represents.
use Rattle.std.specs.Prelude.{◌≡◌, ℕ, ◌⊎◌, ◌++◌, List, [], ◌∷◌, Option, Some, None, Result, All, IsSome, IsTrue, MatchResult, string_bytes}
use Rattle.std.specs.Str.{bytes_eq}
use Rattle.std.specs.Map.{lookup}
use Rattle.address.specs.Address.{origin_of}
use Rattle.robots_rules.specs.Access.{RuleSetValue}
use Rattle.robots_rules.specs.Groups.{rules_in}
use Rattle.fetcher.specs.declared.outcome.Outcome.{Outcome}
use Rattle.fetcher.specs.declared.outcome.Outcome.TheVariants as outcome
use Rattle.site_inputs.specs.declared.input_fault.InputLineFault.{InputLineFault}
use Rattle.site_inputs.specs.declared.input_fault.InputLineFault.TheVariants.{Line, Address, Memory}
use Rattle.site_maps.specs.declared.open_robots.OpenRobots.{OpenRobots}
use Rattle.site_maps.specs.declared.reading.OpenPage.{OpenPage}
use Rattle.site_maps.specs.declared.reading.Open.{Open}
use Rattle.site_maps.specs.declared.reading.Open.TheVariants.{Page, Robots}
use Rattle.site_maps.specs.declared.reading.MapReading.{MapReading}
use Rattle.site_maps.specs.RuleLines.{file_head}
use Rattle.site_maps.specs.Lines.{Statement, robots, HasForm}
use Rattle.site_inputs.specs.Names.{named, IsNamed}
use Rattle.site_maps.specs.Maps.{answers_of, file_below, rules_of, is_ruling, HasPage, HasRobots, IsInPlace, IsAtRoot, IsRepeated, IsGood, IsBadLine, IsBadAddress, IsPlacedLine, texts_of}

-- ---- what is kept

-- the answer of a page whose edge lines may still follow
abbrev pub opened_answer : Option Open → List (List ℕ × Outcome)
opened_answer (Some (Page page)) = (page.address, outcome.Page page.status page.edges.items) ∷ []
opened_answer other = []

-- the rules of an origin whose rule lines may still follow
abbrev pub opened_rules : Option Open → List (List ℕ × RuleSetValue)
opened_rules (Some (Robots open_origin)) = (open_origin.origin, rules_in (string_bytes open_origin.file)) ∷ []
opened_rules other = []

-- the answers so far, that of the open page last
abbrev pub answers_in : MapReading → List (List ℕ × Outcome)
answers_in r = r.answers.entries ++ opened_answer r.open

-- the rule sets so far, that of the open origin last
abbrev pub all_rules : MapReading → List (List ℕ × RuleSetValue)
all_rules r = r.rules.entries ++ opened_rules r.open

-- no answer is kept for the address of the open page
abbrev pub IsFreshPage : MapReading → Type 0
IsFreshPage r = (page : OpenPage) → r.open ≡ Some (Page page) → lookup (bytes_eq page.address) r.answers.entries ≡ None

-- no rules are kept for the open origin
abbrev pub IsFreshOrigin : MapReading → Type 0
IsFreshOrigin r = (open_origin : OpenRobots) → r.open ≡ Some (Robots open_origin) → lookup (bytes_eq open_origin.origin) r.rules.entries ≡ None

-- nothing is kept for what is open
pub record IsFresh (r : MapReading) : Type 0 where
  pub page : IsFreshPage r
  pub origin : IsFreshOrigin r

-- ---- the lines that it represents

-- a page is open
abbrev pub IsPageOpen : MapReading → Type 0
IsPageOpen r = (page : OpenPage) × (r.open ≡ Some (Page page))

-- an origin is open
abbrev pub IsOriginOpen : MapReading → Type 0
IsOriginOpen r = (open_origin : OpenRobots) × (r.open ≡ Some (Robots open_origin))

-- the answers that are kept are those of these lines
pub record TellsAnswers (r : MapReading) (above : List Statement) : Type 0 where
  pub stated : answers_of above ≡ answers_in r
  pub above_open : IsPageOpen r → HasPage above
  pub open_below : HasPage above → IsPageOpen r
  pub fresh : IsFreshPage r

-- the origin is that of a robots line with only rule and skipped lines after it, and the file holds its rules
pub record IsLastOrigin (open_origin : OpenRobots) (above : List Statement) : Type 0 where
  pub higher : List Statement
  pub text : List ℕ
  pub between : List Statement
  pub lines : above ≡ higher ++ robots text ∷ between
  pub ruling : All (λ s. IsTrue (is_ruling s)) between
  pub origin : open_origin.origin ≡ origin_of (named text)
  pub file : string_bytes open_origin.file ≡ file_head ++ file_below between

-- the rule sets that are kept are those of these lines
pub record TellsRules (r : MapReading) (above : List Statement) : Type 0 where
  pub stated : rules_of above ≡ all_rules r
  pub above_open : (open_origin : OpenRobots) → r.open ≡ Some (Robots open_origin) → IsLastOrigin open_origin above
  pub open_below : HasRobots above → IsOriginOpen r
  pub fresh : IsFreshOrigin r

-- what is kept represents these lines
pub record TellsAbove (r : MapReading) (above : List Statement) : Type 0 where
  pub answers : TellsAnswers r above
  pub rules : TellsRules r above

-- ---- one line more

-- what is wrong with a line below these
abbrev pub IsWrong : List Statement → Statement → InputLineFault → Type 0
IsWrong above s Line =
    ¬ IsInPlace above s ⊎ (IsInPlace above s × All IsNamed (texts_of s) × (¬ IsAtRoot s ⊎ IsRepeated above s))
IsWrong above s Address = IsInPlace above s × ¬ All IsNamed (texts_of s)
IsWrong above s Memory = IsInPlace above s

-- nothing is open any more, and every answer and every rule set is kept
pub record Closes (old new : MapReading) : Type 0 where
  pub closed : new.open ≡ None
  pub answers : new.answers.entries ≡ answers_in old
  pub rules : new.rules.entries ≡ all_rules old

-- memory ran out, or the key has an entry already
abbrev pub IsTaken : {V : Type 0} → List (List ℕ × V) → List ℕ → InputLineFault → Type 0
IsTaken entries key f = (f ≡ Memory) ⊎ ((f ≡ Line) × IsSome (lookup (bytes_eq key) entries))

-- what is open is closed, and no answer is stated for the address
abbrev pub Claims : {U : Type 0} → MapReading → List ℕ → Result U InputLineFault → MapReading → Type 0
Claims old at result new =
    IsFresh old
    → MatchResult result (λ _. Closes old new × (lookup (bytes_eq at) (answers_in old) ≡ None)) (IsTaken (answers_in old) at)

-- what is open is closed, and no rules are stated for the origin
abbrev pub ClaimsOrigin : {U : Type 0} → MapReading → List ℕ → Result U InputLineFault → MapReading → Type 0
ClaimsOrigin old of result new =
    IsFresh old
    → MatchResult result (λ _. Closes old new × (lookup (bytes_eq of) (all_rules old) ≡ None)) (IsTaken (all_rules old) of)

-- nothing is open any more, and this outcome is stated for the address too
pub record AddsAnswer (old : MapReading) (at : List ℕ) (x : Outcome) (new : MapReading) : Type 0 where
  pub closed : new.open ≡ None
  pub answers : new.answers.entries ≡ answers_in old ++ (at, x) ∷ []
  pub rules : new.rules.entries ≡ all_rules old
  pub none : lookup (bytes_eq at) (answers_in old) ≡ None

-- the outcome is stated for the address, unless one is already
abbrev pub Adds : {U : Type 0} → MapReading → List ℕ → Outcome → Result U InputLineFault → MapReading → Type 0
Adds old at x result new =
    IsFresh old → MatchResult result (λ _. AddsAnswer old at x new) (IsTaken (answers_in old) at)

-- the line is taken below the lines so far, or is refused for what is wrong with it
abbrev pub Takes : {U : Type 0} → MapReading → Statement → Result U InputLineFault → MapReading → Type 0
Takes old s result new =
    (above : List Statement) → TellsAbove old above
    → MatchResult result (λ _. IsGood above s × TellsAbove new (above ++ s ∷ [])) (λ f. IsWrong above s f)

-- ---- one line more, as bytes

-- what is wrong with the bytes of a line below these
abbrev pub IsBad : List Statement → List ℕ → InputLineFault → Type 0
IsBad above line Line = IsBadLine above line
IsBad above line Address = IsBadAddress above line
IsBad above line Memory = IsPlacedLine above line

-- the bytes are a line that is taken below the lines so far, or are refused for what is wrong with them
abbrev pub Reads : {U : Type 0} → MapReading → List ℕ → Result U InputLineFault → MapReading → Type 0
Reads old line result new =
    (above : List Statement) → TellsAbove old above
    → MatchResult result (λ _. (s : Statement) × HasForm line s × IsGood above s × TellsAbove new (above ++ s ∷ [])) (λ f. IsBad above line f)
