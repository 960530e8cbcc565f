-- What one line of a record says, and which lines each version of the format has.
use Rattle.std.specs.Prelude.{◌≡◌, ℕ, Bool, true, false, ◌+◌, ◌-◌, ◌≤◌, ◌^◌, ◌==◌, ◌&&◌, ◌||◌, not, nat_lt, min, length, slice_index, List, [], ◌∷◌, Option, Some, None, codes, IsUtf8, if◌then◌else◌}
use Rattle.std.specs.Char.{is_ascii_digit}
use Rattle.std.specs.List.{list_all}
use Rattle.std.specs.Str.Parse.{digits_value}
use Rattle.fetcher.specs.declared.fault_kind.FaultKind.{FaultKind}
use Rattle.fetcher.specs.FaultWords.{word_of}
use Rattle.site_inputs.specs.Fields.{fields}
use Rattle.answer_notes.specs.RobotsAnswers.{max_redirects}
use Rattle.site_records.specs.declared.version.Version.{Version}
use Rattle.site_records.specs.declared.version.Version.TheVariants.{First, Second}

-- what a line may say; an address is its text
pub data Statement : Type 0 where
  -- the response of this address has this many bytes
  page : List ℕ → ℕ → Statement
  -- the address has no response, for this reason
  fault : FaultKind → List ℕ → Statement
  -- the robots file of the address's origin has this many bytes
  file : List ℕ → ℕ → Statement
  -- everything is allowed at the address's origin
  free : List ℕ → Statement
  -- nothing is allowed there
  closed : List ℕ → Statement
  -- the robots file of the address's origin was requested, and this many hops follow: the file's answer, and one for each redirect followed
  chain : List ℕ → ℕ → Statement

-- one or more decimal digits
abbrev pub is_numeral : List ℕ → Bool
is_numeral digits = nat_lt 0 (length digits) && list_all is_ascii_digit digits

-- such digits without leading zeros
abbrev pub is_length : List ℕ → Bool
is_length digits = is_numeral digits && (not (slice_index digits 0 == 48) || length digits == 1)

-- the number that such digits write; from 2 ^ 64 - 1 on all are that number, and no input has as many bytes
abbrev pub length_of : List ℕ → Option ℕ
length_of digits = if is_length digits then Some (min (digits_value 10 digits) (2 ^ 64 - 1)) else None

-- so many answers a chain may have: one, and one for each redirect that may be followed (RFC 9309, section 2.3.1.2)
abbrev pub IsHopCount : ℕ → Type 0
IsHopCount n = (1 ≤ n) × (n ≤ max_redirects + 1)

-- the fields of a line say this
abbrev pub IsForm : List (List ℕ) → Statement → Type 0
IsForm fs (page text n) = (digits : List ℕ) × (fs ≡ codes "page" ∷ text ∷ digits ∷ []) × (length_of digits ≡ Some n)
IsForm fs (fault kind text) = fs ≡ codes "fault" ∷ word_of kind ∷ text ∷ []
IsForm fs (file text n) = (digits : List ℕ) × (fs ≡ codes "robots" ∷ text ∷ digits ∷ []) × (length_of digits ≡ Some n)
IsForm fs (free text) = fs ≡ codes "rules" ∷ codes "all" ∷ text ∷ []
IsForm fs (closed text) = fs ≡ codes "rules" ∷ codes "none" ∷ text ∷ []
IsForm fs (chain text n) = (digits : List ℕ) × (fs ≡ codes "chain" ∷ text ∷ digits ∷ []) × (length_of digits ≡ Some n) × IsHopCount n

-- whether records of a version have such entries: the first says what an origin's rules are, the second what was answered for its robots file
abbrev pub is_of : Version → Statement → Bool
is_of version (page text n) = true
is_of version (fault kind text) = true
is_of First (chain text n) = false
is_of First (file text n) = true
is_of First (free text) = true
is_of First (closed text) = true
is_of Second (chain text n) = true
is_of Second (file text n) = false
is_of Second (free text) = false
is_of Second (closed text) = false

-- the line is UTF-8 and says this, in a record of this version
abbrev pub HasForm : Version → List ℕ → Statement → Type 0
HasForm version line s = IsUtf8 line × IsForm (fields line) s × (is_of version s ≡ true)

-- the text of a line's address
abbrev pub text_of : Statement → List ℕ
text_of (page text n) = text
text_of (fault kind text) = text
text_of (file text n) = text
text_of (free text) = text
text_of (closed text) = text
text_of (chain text n) = text

-- ---- the lines of hops

-- what the line of a hop may say; an address is its text
pub data HopStatement : Type 0 where
  -- the response of this address has this many bytes
  hop : List ℕ → ℕ → HopStatement
  -- the address has no response, for this reason
  hopfault : FaultKind → List ℕ → HopStatement

-- the fields of a line say this of a hop
abbrev pub IsHopForm : List (List ℕ) → HopStatement → Type 0
IsHopForm fs (hop text n) = (digits : List ℕ) × (fs ≡ codes "hop" ∷ text ∷ digits ∷ []) × (length_of digits ≡ Some n)
IsHopForm fs (hopfault kind text) = fs ≡ codes "hopfault" ∷ word_of kind ∷ text ∷ []

-- the line is UTF-8 and says this of a hop
abbrev pub HasHopForm : List ℕ → HopStatement → Type 0
HasHopForm line s = IsUtf8 line × IsHopForm (fields line) s

-- the text of its address
abbrev pub hop_text : HopStatement → List ℕ
hop_text (hop text n) = text
hop_text (hopfault kind text) = text
