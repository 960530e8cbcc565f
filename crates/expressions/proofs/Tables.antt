-- How tables of sets of states grow, and what a walk over one shows.
use Rattle.std.proofs.Common.{◌≡◌, ℕ, ◌+◌, ◌-◌, ◌<◌, ◌≤◌, Bool, false, cond, not, List, [], ◌∷◌, Vec, length, vec_len, slice_get, slice_index, slice_index_or, slice_set, is_some, Some, None, refl, sym, ap, ◌∙◌, subst, ⊎_elim, arith}
use Rattle.std.proofs.lemmas.Bool.{cases_lt, cases_eq, ne_eqb}
use Rattle.std.proofs.lemmas.List.{get_or-map, get_or-set_same, get_or-set_other}
use Rattle.std.proofs.lemmas.Option.{slice_get-get_or, slice_get_past}
use Rattle.std.specs.declared.alloc.Global.{Global}
use Rattle.regex_hir.specs.Looks.{holds, holds_between}
use Rattle.regex_hir.specs.Text.{byte_before}
use Rattle.regex_hir.specs.declared.look.Look.{Look}
use Rattle.regex_hir.specs.declared.look.Look.TheVariants.{Start, End}
use Rattle.regex_nfa.specs.declared.nfa.Nfa.{Nfa}
use Rattle.expressions.specs.inner.Accepting.{begins_from, AreFlags, AreMarks, IsAlike}
use Rattle.expressions.specs.declared.table.SetRow.{SetRow}
use Rattle.expressions.specs.inner.Tables.{set_at, AreSets, IsCell, IsEdge, IsEndSet, IsMore, IsRow, LooksAtEdges}
use Rattle.expressions.proofs.Accepting.{begins-here}

-- ---- places that look alike

-- a place looks like itself
pub alike_refl : (nfa : Nfa) (text : List ℕ) (at : ℕ) → IsAlike nfa text at text at
alike_refl nfa text at = record { byte = refl; looks = λ q next l is_state is. refl }

-- after a byte no text starts
not_start : (text : List ℕ) (at : ℕ) → 0 < at → at ≤ length text → holds Start text at ≡ false
unfolding holds holds_between byte_before
not_start text at some inside =
    ap (λ b. not (is_some (cond b None (slice_get text (at - 1))))) (ne_eqb at 0 (λ none. omega (arith, some, none))) ∙ ap (λ o. not (is_some o)) (slice_get-get_or text (at - 1) 0 (omega (arith, some, inside)))

-- before a byte no text ends
ends_by : (text : List ℕ) (at : ℕ) → holds End text at ≡ not (is_some (slice_get text at))
unfolding holds holds_between
ends_by text at = refl

edges_alike : (text other : List ℕ) (at place : ℕ) (l : Look) → IsEdge l → 0 < at → at ≤ length text → 0 < place → place ≤ length other → slice_get text at ≡ slice_get other place →
    holds l text at ≡ holds l other place
edges_alike text other at place l edge some inside other_some other_inside same =
    ⊎_elim
    (λ (start : l ≡ Start). ap (λ k. holds k text at) start ∙ not_start text at some inside ∙ sym (not_start other place other_some other_inside) ∙ ap (λ k. holds k other place) (sym start))
    (λ (end : l ≡ End).
    ap (λ k. holds k text at) end ∙ ends_by text at ∙ ap (λ b. not (is_some b)) same ∙ sym (ends_by other place) ∙ ap (λ k. holds k other place) (sym end))
    edge

-- to an automaton that looks at edges alone, places after a byte look alike if the same is read there
pub alike : (nfa : Nfa) (text other : List ℕ) (at place : ℕ) → LooksAtEdges nfa → 0 < at → at ≤ length text → 0 < place → place ≤ length other → slice_get text at ≡ slice_get other place →
    IsAlike nfa text at other place
alike nfa text other at place edges some inside other_some other_inside same = record {
  byte = same;
  looks = λ q next l is_state is. edges_alike text other at place l (edges q next l is_state is) some inside other_some other_inside same;
}

-- the flags of this place
pub marks_here : (nfa : Nfa) (text : List ℕ) (at after : ℕ) (next here : List Bool) → after ≡ at + 1 → AreMarks nfa text at next here → (after ≤ length text → AreFlags nfa text after next) → AreFlags nfa text at here
marks_here nfa text at after next here is marks flags =
    marks text at (alike_refl nfa text at) (λ inside. subst (λ p. AreFlags nfa text p next) is (flags (omega (arith, is, inside))))

-- so the marks of the end of one text are those of the ends of all
pub end_set_is : (nfa : Nfa) (none set : List Bool) → LooksAtEdges nfa → AreMarks nfa (0 ∷ []) 1 none set → IsEndSet nfa set
end_set_is nfa none set edges marks =
    λ text some. marks text (length text) (alike nfa (0 ∷ []) text 1 (length text) edges (omega arith) (omega arith) some (omega arith) (sym (slice_get_past text (length text) (omega arith)))) (λ inside. absurd (omega (arith, inside)))

-- ---- sets that are added

pub more_trans : (a b c : List (Vec Bool Global)) → IsMore a b → IsMore b c → IsMore a c
more_trans a b c first second = record {
  long = omega (arith, first.long, second.long);
  same = λ number is. second.same number (omega (arith, is, first.long)) ∙ first.same number is;
}

pub set_is : (sets : List (Vec Bool Global)) (number : ℕ) (set : Vec Bool Global) → number < length sets → slice_index_or sets number set ≡ set → set_at sets number ≡ set.items
set_is sets number set inside is = get_or-map (λ v. v.items) sets number set [] inside ∙ ap (λ v. v.items) is

pub cell_more : (nfa : Nfa) (before after : List (Vec Bool Global)) (from byte number : ℕ) → IsMore before after → from < length before → IsCell nfa before from byte number → IsCell nfa after from byte number
cell_more nfa before after from byte number more is cell = (
  omega (arith, cell.0, more.long),
  subst (λ s. AreMarks nfa (0 ∷ byte ∷ []) 1 s (set_at after number)) (sym (more.same from is))
      (subst (λ s. AreMarks nfa (0 ∷ byte ∷ []) 1 (set_at before from) s) (sym (more.same number cell.0)) cell.1),
)

-- a set is of the place before another
pub cell_is : (nfa : Nfa) (before after : List (Vec Bool Global)) (from byte number : ℕ) (next set : List Bool) → IsMore before after → from < length before → set_at before from ≡ next →
    AreMarks nfa (0 ∷ byte ∷ []) 1 next set → number < length after → set_at after number ≡ set → IsCell nfa after from byte number
cell_is nfa before after from byte number next set more is from_is marks inside number_is = (
  inside,
  subst (λ s. AreMarks nfa (0 ∷ byte ∷ []) 1 s (set_at after number)) (sym (more.same from is ∙ from_is))
      (subst (λ s. AreMarks nfa (0 ∷ byte ∷ []) 1 next s) (sym number_is) marks),
)

-- what is added has a flag for each state
pub sets_more : (nfa : Nfa) (before after : List (Vec Bool Global)) (set : List Bool) → IsMore before after → AreSets nfa before → vec_len nfa.states ≤ length set →
    ((n : ℕ) → length before ≤ n → n < length after → set_at after n ≡ set) → AreSets nfa after
sets_more nfa before after set more sets room added =
    λ number is.
    ⊎_elim
    (λ (old : number < length before). subst (λ s. vec_len nfa.states ≤ length s) (sym (more.same number old)) (sets number old))
    (λ (past : length before ≤ number). subst (λ s. vec_len nfa.states ≤ length s) (sym (added number past is)) room)
    (cases_lt number (length before))

-- one cell more
pub cells_more : (nfa : Nfa) (before after : List (Vec Bool Global)) (from byte number : ℕ) (row : List ℕ) → IsMore before after → from < length before → byte < length row → IsCell nfa after from byte number →
    ((b : ℕ) → b < byte → IsCell nfa before from b (slice_index row b)) → (b : ℕ) → b < byte + 1 → IsCell nfa after from b (slice_index (slice_set row byte number) b)
cells_more nfa before after from byte number row more is inside cell cells b below =
    ⊎_elim
    (λ (same : b ≡ byte).
    subst (λ n. IsCell nfa after from b n) (sym (ap (λ k. slice_index (slice_set row byte number) k) same ∙ get_or-set_same row byte number 0 inside)) (subst (λ k. IsCell nfa after from k number) (sym same) cell))
    (λ (other : b ≡ byte → ⊥).
    let earlier : b < byte = ⊎_elim (λ yes. yes) (λ (past : byte ≤ b). absurd (other (omega (arith, past, below)))) (cases_lt b byte) in
    subst (λ n. IsCell nfa after from b n) (sym (get_or-set_other row byte b number 0 other)) (cell_more nfa before after from b _ more is (cells b earlier)))
    (cases_eq b byte)

-- ---- walks

-- the row of a place's set says whether a match begins there
pub row_begins : (nfa : Nfa) (sets : List (Vec Bool Global)) (text : List ℕ) (at number : ℕ) (row : SetRow) → IsRow nfa sets number row → AreFlags nfa text at (set_at sets number) → at ≤ length text →
    begins_from nfa text (at + 1) ≡ false → row.begins ≡ begins_from nfa text at
row_begins nfa sets text at number row its flags inside none =
    begins-here nfa text at row.begins inside (its.begins ∙ flags nfa.start nfa.start_in) (sym none)

-- and has the set of the place before
pub row_steps : (nfa : Nfa) (sets : List (Vec Bool Global)) (text : List ℕ) (at after number byte : ℕ) (row : SetRow) → LooksAtEdges nfa → IsRow nfa sets number row → AreFlags nfa text after (set_at sets number) →
    after ≡ at + 1 → row.begins ≡ false → 0 < at → at < length text → byte < 256 → slice_get text at ≡ Some byte →
    (slice_index row.before byte < length sets) × AreFlags nfa text at (set_at sets (slice_index row.before byte))
row_steps nfa sets text at after number byte row edges its flags is goes some inside small read =
    let cell = its.cells goes byte small in
    (cell.0, cell.1 text at (alike nfa (0 ∷ byte ∷ []) text 1 at edges (omega arith) (omega arith) some (omega (arith, inside)) (sym read)) (λ more. subst (λ p. AreFlags nfa text p (set_at sets number)) is flags))
