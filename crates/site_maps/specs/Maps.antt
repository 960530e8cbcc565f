-- What the lines of a map say together, and the first bad line.
use Rattle.std.specs.Prelude.{◌≡◌, ℕ, ◌+◌, ◌⊎◌, ◌==◌, ◌++◌, Bool, true, false, List, [], ◌∷◌, Some, All, IsSome, IsTrue, take, slice_get, unwrap_or, codes}
use Rattle.std.specs.List.{slice_split, AllZip}
use Rattle.std.specs.Map.{lookup}
use Rattle.std.specs.Str.{bytes_eq}
use Rattle.address.specs.Address.{origin_of, path_query_of}
use Rattle.robots_rules.specs.Access.{RuleSetValue}
use Rattle.robots_rules.specs.Groups.{rules_in}
use Rattle.fetcher.specs.declared.edge.Edge.{Edge}
use Rattle.fetcher.specs.declared.outcome.Outcome.{Outcome}
use Rattle.fetcher.specs.declared.outcome.Outcome.TheVariants.{Page, Moved, Leaf, Fault}
use Rattle.fetcher.specs.declared.status.TheConstants.{NOT_FOUND}
use Rattle.site_inputs.specs.declared.input_fault.InputFault.{InputFault}
use Rattle.site_inputs.specs.declared.input_fault.InputFault.TheVariants.{Line, Address, Memory}
use Rattle.fetcher.specs.Sites.{SiteAnswers}
use Rattle.site_inputs.specs.Tables.{rules_at}
use Rattle.site_inputs.specs.Names.{named, IsNamed}
use Rattle.site_maps.specs.RuleLines.{file_head, file_line}
use Rattle.site_maps.specs.Lines.{Statement, skipped, page, edge, moved, leaf, fault, robots, closed, rule, HasForm}

-- the lines of a text: what is between its line feeds
abbrev pub text_lines_of : List ℕ → List (List ℕ)
text_lines_of text = slice_split (λ b. b == 10) text

-- ---- what is stated

-- the edges that these lines give the page above them: those before the next line of another kind
abbrev pub edges_below : List Statement → List Edge
edges_below [] = []
edges_below (skipped ∷ more) = edges_below more
edges_below (edge kind text ∷ more) = record { target = named text; kind = kind } ∷ edges_below more
edges_below (other ∷ more) = []

-- the answers that a map states: an address and its outcome for each page, moved, leaf and fault line
abbrev pub answers_of : List Statement → List (List ℕ × Outcome)
answers_of [] = []
answers_of (page status text ∷ more) = (named text, Page status (edges_below more)) ∷ answers_of more
answers_of (moved status text target ∷ more) = (named text, Moved status (named target)) ∷ answers_of more
answers_of (leaf status text ∷ more) = (named text, Leaf status) ∷ answers_of more
answers_of (fault kind text ∷ more) = (named text, Fault kind) ∷ answers_of more
answers_of (other ∷ more) = answers_of more

-- the robots file of the rules that these lines give the origin above them: those before the next line of another kind
abbrev pub file_below : List Statement → List ℕ
file_below [] = []
file_below (skipped ∷ more) = file_below more
file_below (rule kind rest ∷ more) = file_line kind rest ++ file_below more
file_below (other ∷ more) = []

-- the rule sets that a map states: an origin and its rules for each robots line (RFC 9309, section 2.2)
abbrev pub rules_of : List Statement → List (List ℕ × RuleSetValue)
rules_of [] = []
rules_of (robots text ∷ more) = (origin_of (named text), rules_in (file_head ++ file_below more)) ∷ rules_of more
rules_of (closed text ∷ more) = (origin_of (named text), record { closed = true; rules = [] }) ∷ rules_of more
rules_of (other ∷ more) = rules_of more

-- what a map of these answers says of an address: what it states, and not found of an address that it doesn't name
abbrev pub outcome_in_map : List (List ℕ × Outcome) → List ℕ → Outcome
outcome_in_map answers at = unwrap_or (lookup (bytes_eq at) answers) (Leaf NOT_FOUND)

-- what a map of these answers and these rule sets says
abbrev pub says_of : List (List ℕ × Outcome) → List (List ℕ × RuleSetValue) → SiteAnswers
says_of answers rules = record { outcome = outcome_in_map answers; rules = rules_at rules }

-- ---- which lines are good

-- the line is an edge line or is skipped
abbrev pub is_between : Statement → Bool
is_between skipped = true
is_between (edge kind text) = true
is_between other = false

-- the line is a rule line or is skipped
abbrev pub is_ruling : Statement → Bool
is_ruling skipped = true
is_ruling (rule kind rest) = true
is_ruling other = false

-- these lines have such a line with only lines after it that pass
abbrev pub HasAbove : (Statement → Type 0) → (Statement → Bool) → List Statement → Type 0
HasAbove IsHead passes said =
    (above : List Statement) × (head : Statement) × (between : List Statement)
    × (said ≡ above ++ head ∷ between) × IsHead head × All (λ s. IsTrue (passes s)) between

-- the line is a page line
abbrev pub IsPage : Statement → Type 0
IsPage s = (status : ℕ) × (text : List ℕ) × (s ≡ page status text)

-- the line has an origin whose rules follow
abbrev pub IsRobots : Statement → Type 0
IsRobots s = (text : List ℕ) × (s ≡ robots text)

-- these lines have a page line with only edge and skipped lines after it
abbrev pub HasPage : List Statement → Type 0
HasPage said = HasAbove IsPage is_between said

-- these lines have a robots line with only rule and skipped lines after it
abbrev pub HasRobots : List Statement → Type 0
HasRobots said = HasAbove IsRobots is_ruling said

-- the line may be below these: an edge line has its page above it, and a rule line its origin
abbrev pub IsInPlace : List Statement → Statement → Type 0
IsInPlace above (edge kind text) = HasPage above
IsInPlace above (rule kind rest) = HasRobots above
IsInPlace above other = Unit {0}

-- the address texts of a line, from the left
abbrev pub texts_of : Statement → List (List ℕ)
texts_of skipped = []
texts_of (page status text) = text ∷ []
texts_of (edge kind text) = text ∷ []
texts_of (moved status text target) = text ∷ target ∷ []
texts_of (leaf status text) = text ∷ []
texts_of (fault kind text) = text ∷ []
texts_of (robots text) = text ∷ []
texts_of (closed text) = text ∷ []
texts_of (rule kind rest) = []

-- the address of a robots line is its origin's `/`, without a query
abbrev pub IsAtRoot : Statement → Type 0
IsAtRoot (robots text) = path_query_of (named text) ≡ codes "/"
IsAtRoot (closed text) = path_query_of (named text) ≡ codes "/"
IsAtRoot other = Unit {0}

-- these lines state an answer for the address
abbrev pub IsAnswered : List Statement → List ℕ → Type 0
IsAnswered said at = IsSome (lookup (bytes_eq at) (answers_of said))

-- these lines state rules for the origin
abbrev pub IsRuled : List Statement → List ℕ → Type 0
IsRuled said of = IsSome (lookup (bytes_eq of) (rules_of said))

-- the line states an answer for an address, or rules for an origin, for which these lines state one
abbrev pub IsRepeated : List Statement → Statement → Type 0
IsRepeated above s =
    ((at : List ℕ) × IsAnswered (s ∷ []) at × IsAnswered above at)
    ⊎ ((of : List ℕ) × IsRuled (s ∷ []) of × IsRuled above of)

-- the line is good below these
pub record IsGood (above : List Statement) (s : Statement) : Type 0 where
  pub in_place : IsInPlace above s
  pub are_named : All IsNamed (texts_of s)
  pub at_root : IsAtRoot s
  pub is_new : ¬ IsRepeated above s

-- the lines are a map that says this: each line has its form and is good below those above it
pub record IsMap (lines : List (List ℕ)) (said : List Statement) : Type 0 where
  pub forms : AllZip HasForm lines said
  pub good : (k : ℕ) (s : Statement) → slice_get said k ≡ Some s → IsGood (take k said) s

-- ---- the first bad line

-- the line, below these, has no form, is out of place, has a robots address with a path, or states something once more
abbrev pub IsBadLine : List Statement → List ℕ → Type 0
IsBadLine above line =
    ((s : Statement) → ¬ HasForm line s)
    ⊎ ((s : Statement) × HasForm line s × (¬ IsInPlace above s
    ⊎ (IsInPlace above s × All IsNamed (texts_of s) × (¬ IsAtRoot s ⊎ IsRepeated above s))))

-- the line has its form and its place, and one of its addresses is refused
abbrev pub IsBadAddress : List Statement → List ℕ → Type 0
IsBadAddress above line = (s : Statement) × HasForm line s × IsInPlace above s × ¬ All IsNamed (texts_of s)

-- the line has its form and its place: memory may run out over it, and over no other
abbrev pub IsPlacedLine : List Statement → List ℕ → Type 0
IsPlacedLine above line = (s : Statement) × HasForm line s × IsInPlace above s

-- the lines before number n, counted from 1, are a map, and this is true of line n below what they say
abbrev pub FirstBad : List (List ℕ) → ℕ → (List Statement → List ℕ → Type 0) → Type 0
FirstBad lines n IsBad =
    (k : ℕ) × (n ≡ k + 1) × (line : List ℕ) × (slice_get lines k ≡ Some line)
    × (above : List Statement) × IsMap (take k lines) above × IsBad above line

-- the fault of a text: its first bad line, and what is wrong with it; or memory ran out, over a line below a map, or after the last
abbrev pub IsFault : List ℕ → InputFault → Type 0
IsFault text (Line n) = FirstBad (text_lines_of text) n IsBadLine
IsFault text (Address n) = FirstBad (text_lines_of text) n IsBadAddress
IsFault text Memory = ((n : ℕ) × FirstBad (text_lines_of text) n IsPlacedLine) ⊎ ((said : List Statement) × IsMap (text_lines_of text) said)
