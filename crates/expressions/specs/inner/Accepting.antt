-- Which states of an automaton lead to a match, from a place of a text.
use Rattle.std.specs.Prelude.{◌≡◌, ℕ, ◌+◌, ◌<◌, Bool, true, false, ◌||◌, ◌&&◌, List, length, vec_len, slice_get, slice_index, slice_index_or, is_some, All, IsSomeAnd, option_and_then}
use Rattle.regex_hir.specs.Re.{Re, accept, attempt}
use Rattle.regex_hir.specs.Find.{first_between}
use Rattle.regex_hir.specs.Looks.{holds}
use Rattle.regex_hir.specs.declared.look.Look.{Look as Assertion}
use Rattle.regex_hir.specs.Text.{is_some_and}
use Rattle.regex_nfa.specs.declared.nfa.Nfa.{Nfa}
use Rattle.regex_nfa.specs.declared.state.State.{State}
use Rattle.regex_nfa.specs.declared.state.State.TheVariants.{ByteRange, Sparse, Split, Save, Look, Match, Fail}
use Rattle.regex_nfa.specs.States.{next_on}
use Rattle.regex_nfa.specs.Run.{run, state_of}
use Rattle.expressions.specs.Expressions.{expression_of}

-- from that place of the text the state leads to a match
unfoldable pub accepts : Nfa → List ℕ → ℕ → ℕ → Bool
accepts nfa text at state = is_some (run nfa text (length text) state at)

-- the state that reads a byte leads to a match from that place
abbrev pub reads : Nfa → List ℕ → ℕ → State → Bool
reads nfa text at state = is_some_and (option_and_then (next_on nfa.transitions.items state) (slice_get text at)) (accepts nfa text (at + 1))

-- the same of a state of any kind, by those that it leads to
abbrev pub leads : Nfa → List ℕ → ℕ → State → Bool
leads nfa text at (ByteRange t) = reads nfa text at (ByteRange t)
leads nfa text at (Sparse from to) = reads nfa text at (Sparse from to)
leads nfa text at (Split first second) = accepts nfa text at first || accepts nfa text at second
leads nfa text at (Save slot next) = accepts nfa text at next
leads nfa text at (Look l next) = holds l text at && accepts nfa text at next
leads nfa text at Match = true
leads nfa text at Fail = false

-- the flags say of each state whether it leads to a match from that place
abbrev pub AreFlags : Nfa → List ℕ → ℕ → List Bool → Type 0
AreFlags nfa text at flags = (q : ℕ) → q < vec_len nfa.states → slice_index_or flags q false ≡ accepts nfa text at q

-- the same of the states whose rank is lower than that
abbrev pub AreFlagsBelow : Nfa → List ℕ → ℕ → List Bool → ℕ → Type 0
AreFlagsBelow nfa text at flags rank =
    (q : ℕ) → q < vec_len nfa.states → slice_index nfa.ranks.items q < rank → slice_index_or flags q false ≡ accepts nfa text at q

-- The two places look alike to the automaton: the same byte is read at both, and each look of a state holds at both or at neither.
pub record IsAlike (nfa : Nfa) (text : List ℕ) (at : ℕ) (other : List ℕ) (place : ℕ) : Type 0 where
  pub byte : slice_get text at ≡ slice_get other place
  pub looks : (q next : ℕ) (l : Assertion) → q < vec_len nfa.states → state_of nfa q ≡ Look l next → holds l text at ≡ holds l other place

-- if a byte is read at that place, these are the flags of the next one
abbrev pub AreNextFlags : Nfa → List ℕ → ℕ → List Bool → Type 0
AreNextFlags nfa text at next = at < length text → AreFlags nfa text (at + 1) next

-- these are the flags of each place that looks like that one, if those are the flags of the next
abbrev pub AreMarks : Nfa → List ℕ → ℕ → List Bool → List Bool → Type 0
AreMarks nfa text at next here = (other : List ℕ) (place : ℕ) → IsAlike nfa text at other place → AreNextFlags nfa other place next → AreFlags nfa other place here

-- a match begins at that place or after it
unfoldable pub begins_from : Nfa → List ℕ → ℕ → Bool
begins_from nfa text at = is_some (first_between (run nfa text (length text) nfa.start) at (length text))

-- the automaton finds a match if the pattern has one, in each text of bytes
abbrev pub Finds : Nfa → Re → Type 0
Finds nfa re = (text : List ℕ) → All (λ byte. byte < 256) text → (at : ℕ) → accepts nfa text at nfa.start ≡ is_some (attempt text re accept at)

-- the automaton is that of the expression
abbrev pub IsCompiled : List ℕ → Nfa → Type 0
IsCompiled expression nfa = IsSomeAnd (expression_of expression) (Finds nfa)
