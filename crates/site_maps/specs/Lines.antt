-- What one line of a map says.
use Rattle.std.specs.Prelude.{◌≡◌, ℕ, ◌+◌, ◌-◌, ◌*◌, ◌≤◌, ◌⊎◌, ◌&&◌, List, [], ◌∷◌, ◌++◌, Option, Some, None, slice_index, codes, IsTrue, IsUtf8, if◌then◌else◌}
use Rattle.std.specs.Char.{is_ascii_digit}
use Rattle.fetcher.specs.declared.edge.EdgeKind.{EdgeKind}
use Rattle.fetcher.specs.declared.edge.EdgeKind.TheVariants.{Link, Inline, Redirect}
use Rattle.fetcher.specs.declared.fault_kind.FaultKind.{FaultKind}
use Rattle.fetcher.specs.FaultWords.{word_of}
use Rattle.fetcher.specs.Statuses.{is_redirect, is_successful}
use Rattle.fetcher.specs.declared.status.TheConstants.{FIRST_SUCCESS}
use Rattle.site_inputs.specs.Fields.{fields}
use Rattle.site_maps.specs.declared.rule_kind.RuleKind.{RuleKind}
use Rattle.site_maps.specs.RuleLines.{rule_word}

-- what a line may say; an address is the text that is there
pub data Statement : Type 0 where
  -- nothing
  skipped : Statement
  -- a page of this status has this address
  page : ℕ → List ℕ → Statement
  -- the page above has an edge of this kind to this address
  edge : EdgeKind → List ℕ → Statement
  -- the first address redirects to the second, with this status
  moved : ℕ → List ℕ → List ℕ → Statement
  -- the address has an answer of this status that leads nowhere
  leaf : ℕ → List ℕ → Statement
  -- the address has no response, for this reason
  fault : FaultKind → List ℕ → Statement
  -- the address's origin has the rules of the rule lines below
  robots : List ℕ → Statement
  -- nothing is allowed at the address's origin
  closed : List ℕ → Statement
  -- the origin above has one more rule of this kind; this follows its word
  rule : RuleKind → List ℕ → Statement

-- the value of three decimal digits; other texts have none
abbrev pub three_digits : List ℕ → Option ℕ
three_digits (a ∷ b ∷ c ∷ []) =
    if is_ascii_digit a && is_ascii_digit b && is_ascii_digit c
    then Some (100 * (a - 48) + 10 * (b - 48) + (c - 48))
    else None
three_digits _ = None

-- the fields of a line that is neither empty nor a comment say this
abbrev pub IsForm : List (List ℕ) → Statement → Type 0
IsForm fs skipped = ⊥
IsForm fs (page status text) =
    (number : List ℕ) × (fs ≡ codes "page" ∷ number ∷ text ∷ []) × (three_digits number ≡ Some status) × IsTrue (is_successful status)
IsForm fs (edge Link text) = fs ≡ codes "link" ∷ text ∷ []
IsForm fs (edge Inline text) = fs ≡ codes "inline" ∷ text ∷ []
IsForm fs (edge Redirect text) = ⊥
IsForm fs (moved status text target) =
    (number : List ℕ) × (fs ≡ codes "moved" ∷ number ∷ text ∷ target ∷ []) × (three_digits number ≡ Some status) × IsTrue (is_redirect status)
IsForm fs (leaf status text) =
    (number : List ℕ) × (fs ≡ codes "leaf" ∷ number ∷ text ∷ []) × (three_digits number ≡ Some status) × (FIRST_SUCCESS ≤ status)
IsForm fs (fault kind text) = fs ≡ codes "fault" ∷ word_of kind ∷ text ∷ []
IsForm fs (robots text) = fs ≡ codes "robots" ∷ text ∷ []
IsForm fs (closed text) = fs ≡ codes "robots" ∷ text ∷ codes "none" ∷ []
IsForm fs (rule kind rest) = ⊥

-- the line is the word and this after it: nothing, or a space and more
abbrev pub IsBehind : List ℕ → List ℕ → List ℕ → Type 0
IsBehind line word rest = (line ≡ word ++ rest) × ((rest ≡ []) ⊎ (slice_index rest 0 ≡ 32))

-- the line says this, and it is a rule: a pattern may hold spaces
abbrev pub SaysRule : List ℕ → Statement → Type 0
SaysRule line (rule kind rest) = IsBehind line (rule_word kind) rest
SaysRule line s = ⊥

-- the line is empty or begins with `#`
abbrev pub IsSkipped : List ℕ → Type 0
IsSkipped line = (line ≡ []) ⊎ (slice_index line 0 ≡ 35)

-- the line is UTF-8 and says this
abbrev pub HasForm : List ℕ → Statement → Type 0
HasForm line skipped = IsUtf8 line × IsSkipped line
HasForm line (rule kind rest) = IsUtf8 line × SaysRule line (rule kind rest)
HasForm line s = IsUtf8 line × IsForm (fields line) s
