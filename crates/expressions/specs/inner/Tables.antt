-- Tables of sets of states: of each set, and of each byte, what set the place before has.
use Rattle.std.specs.Prelude.{◌≡◌, ◌⊎◌, ℕ, ◌<◌, ◌≤◌, Bool, false, List, [], ◌∷◌, Vec, length, vec_len, map, slice_index, slice_index_or}
use Rattle.std.specs.declared.alloc.Global.{Global}
use Rattle.regex_hir.specs.declared.look.Look.{Look}
use Rattle.regex_hir.specs.declared.look.Look.TheVariants.{Start, End}
use Rattle.regex_nfa.specs.declared.nfa.Nfa.{Nfa}
use Rattle.regex_nfa.specs.declared.state.State.TheVariants as kinds
use Rattle.regex_nfa.specs.Run.{state_of}
use Rattle.expressions.specs.inner.Accepting.{AreFlags, AreMarks}
use Rattle.expressions.specs.declared.table.SetRow.{SetRow}
use Rattle.expressions.specs.declared.table.Table.{Table}

-- the look is at a text's start or end
abbrev pub IsEdge : Look → Type 0
IsEdge l = (l ≡ Start) ⊎ (l ≡ End)

-- so is each look of the automaton
abbrev pub LooksAtEdges : Nfa → Type 0
LooksAtEdges nfa = (q next : ℕ) (l : Look) → q < vec_len nfa.states → state_of nfa q ≡ kinds.Look l next → IsEdge l

-- the flags of the set with this number
abbrev pub set_at : List (Vec Bool Global) → ℕ → List Bool
set_at sets number = slice_index_or (map (λ set. set.items) sets) number []

-- each set has a flag for each state
abbrev pub AreSets : Nfa → List (Vec Bool Global) → Type 0
AreSets nfa sets = (number : ℕ) → number < length sets → vec_len nfa.states ≤ length (set_at sets number)

-- sets are added at the end alone
pub record IsMore (before after : List (Vec Bool Global)) : Type 0 where
  pub long : length before ≤ length after
  pub same : (number : ℕ) → number < length before → set_at after number ≡ set_at before number

-- the set with this number has the flags of the place before one that has those flags, if this byte is read there
abbrev pub IsCell : Nfa → List (Vec Bool Global) → ℕ → ℕ → ℕ → Type 0
IsCell nfa sets from byte number = (number < length sets) × AreMarks nfa (0 ∷ byte ∷ []) 1 (set_at sets from) (set_at sets number)

-- the row of the set with this number; what is before a place at which a match begins isn't asked
pub record IsRow (nfa : Nfa) (sets : List (Vec Bool Global)) (from : ℕ) (row : SetRow) : Type 0 where
  pub begins : row.begins ≡ slice_index_or (set_at sets from) nfa.start false
  pub cells : row.begins ≡ false → (byte : ℕ) → byte < 256 → IsCell nfa sets from byte (slice_index row.before byte)

-- the rows of as many sets
abbrev pub AreRows : Nfa → List (Vec Bool Global) → List SetRow → Type 0
AreRows nfa sets rows = (number : ℕ) (row : SetRow) → number < length rows → IsRow nfa sets number (slice_index_or rows number row)

-- the first set is that of the end of each text that has a byte
abbrev pub IsEndSet : Nfa → List Bool → Type 0
IsEndSet nfa set = (text : List ℕ) → 0 < length text → AreFlags nfa text (length text) set

-- the table is one of the automaton
pub record IsTable (nfa : Nfa) (table : Table) : Type 0 where
  pub edges : LooksAtEdges nfa
  pub sets : AreSets nfa table.sets.items
  pub ends : (0 < length table.sets.items) × IsEndSet nfa (set_at table.sets.items 0)
  pub rows : (length table.rows.items ≡ length table.sets.items) × AreRows nfa table.sets.items table.rows.items
