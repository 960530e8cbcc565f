-- A state leads to a match if one does to which it leads.
use Rattle.std.proofs.Common.{◌≡◌, ℕ, zero, suc, ◌+◌, ◌<◌, ◌≤◌, Bool, true, false, cond, ◌||◌, ◌&&◌, List, length, slice_index, slice_index_or, slice_set, is_some, Option, Some, None, option_and_then, option_map, refl, sym, ap, ◌∙◌, subst, ⊎_elim, arith, get_or-set_same, get_or-set_other}
use Rattle.std.proofs.lemmas.Bool.{cases_lt, cases_eq}
use Rattle.std.specs.Option.{option_or}
use Rattle.regex_hir.specs.Find.{first_between}
use Rattle.regex_hir.specs.Looks.{holds}
use Rattle.regex_hir.specs.Text.{is_some_and}
use Rattle.regex_hir.proofs.OptionLemmas.{is_some-write}
use Rattle.regex_hir.proofs.FindLemmas.{first_between_unfold, first_between_past}
use Rattle.regex_nfa.specs.declared.nfa.Nfa.{Nfa}
use Rattle.regex_nfa.specs.declared.state.State.{State}
use Rattle.regex_nfa.specs.declared.state.State.TheVariants.{ByteRange, Sparse, Split, Save, Look, Match as Matched, Fail}
use Rattle.regex_nfa.specs.States.{next_on, visit, read, byte_below, IsBelow}
use Rattle.regex_nfa.specs.Run.{run, state_of}
use Rattle.regex_nfa.proofs.RunLemmas.{run_at, byte_below-length}
use Rattle.expressions.specs.inner.Accepting.{accepts, reads, leads, AreFlags, AreFlagsBelow, begins_from}
use Rattle.expressions.specs.inner.Order.{IsOrder}

-- ---- whether there is something

is_some_or : {A : Type 0} (o p : Option A) → is_some (option_or o p) ≡ (is_some o || is_some p)
is_some_or None p = refl
is_some_or (Some x) p = refl

is_some_then : {A B : Type 0} (f : A → Option B) (o : Option A) → is_some (option_and_then f o) ≡ is_some_and o (λ x. is_some (f x))
is_some_then f None = refl
is_some_then f (Some x) = refl

pub is_some_if : {A : Type 0} (b : Bool) (o : Option A) → is_some (cond b o None) ≡ (b && is_some o)
is_some_if true o = refl
is_some_if false o = refl

pub is_some_map : {A B : Type 0} (f : A → B) (o : Option A) → is_some (option_map f o) ≡ is_some o
is_some_map f None = refl
is_some_map f (Some x) = refl

-- ---- states

read_is : (nfa : Nfa) (text : List ℕ) (at : ℕ) (state : State) →
    is_some (read nfa.transitions.items text (length text) (run nfa text (length text)) state at) ≡ reads nfa text at state
unfolding accepts
read_is nfa text at state =
    is_some_then (λ to. run nfa text (length text) to (at + 1)) (option_and_then (next_on nfa.transitions.items state) (byte_below text (length text) at)) ∙ ap (λ byte. is_some_and (option_and_then (next_on nfa.transitions.items state) byte) (λ to. is_some (run nfa text (length text) to (at + 1)))) (byte_below-length text at)

by_kind : (nfa : Nfa) (text : List ℕ) (at : ℕ) (state : State) →
    is_some (visit nfa.transitions.items text (length text) (run nfa text (length text)) state at) ≡ leads nfa text at state
unfolding accepts
by_kind nfa text at (ByteRange t) = read_is nfa text at (ByteRange t)
by_kind nfa text at (Sparse from to) = read_is nfa text at (Sparse from to)
by_kind nfa text at (Split first second) = is_some_or _ _
by_kind nfa text at (Save slot next) = is_some-write slot at _
by_kind nfa text at (Look l next) = is_some_if (holds l text at) _
by_kind nfa text at Matched = refl
by_kind nfa text at Fail = refl

pub accepts-is : (nfa : Nfa) (text : List ℕ) (at q : ℕ) (state : State) → state_of nfa q ≡ state → accepts nfa text at q ≡ leads nfa text at state
unfolding accepts
accepts-is nfa text at q state is = ap is_some (run_at nfa text (length text) q at state is) ∙ by_kind nfa text at state

-- a flag of a state of lower rank
pub known : (nfa : Nfa) (text : List ℕ) (at : ℕ) (here : List Bool) (q to : ℕ) → AreFlagsBelow nfa text at here (slice_index nfa.ranks.items q) → IsBelow nfa.ranks.items to q →
    slice_index_or here to false ≡ accepts nfa text at to
known nfa text at here q to flags below = flags to (omega (arith, below.0, nfa.ranks_len)) below.1

-- ---- flags

-- states that come before this one in the order have their flags, so those of lower ranks do
pub flags_below : (nfa : Nfa) (order : List ℕ) (text : List ℕ) (at : ℕ) (here : List Bool) (index : ℕ) → IsOrder nfa order → index < length order →
    ((k : ℕ) → k < index → slice_index_or here (slice_index order k) false ≡ accepts nfa text at (slice_index order k)) →
    AreFlagsBelow nfa text at here (slice_index nfa.ranks.items (slice_index order index))
flags_below nfa order text at here index ordered inside marks q is_state lower =
    let place = ordered.has q (omega (arith, nfa.ranks_len)) in
    let before : place.0 < index =
    ⊎_elim (λ yes. yes)
    (λ (past : index ≤ place.0).
    let up : slice_index nfa.ranks.items (slice_index order index) ≤ slice_index nfa.ranks.items (slice_index order place.0) = ordered.rising index place.0 past place.1 in
    let same : slice_index nfa.ranks.items (slice_index order place.0) ≡ slice_index nfa.ranks.items q = ap (λ s. slice_index nfa.ranks.items s) place.2 in
    absurd (omega (arith, up, same, lower)))
    (cases_lt place.0 index) in
    subst (λ s. slice_index_or here s false ≡ accepts nfa text at s) place.2 (marks place.0 before)

-- one flag more
pub flags_more : (nfa : Nfa) (order : List ℕ) (text : List ℕ) (at : ℕ) (here : List Bool) (index : ℕ) (flag : Bool) → slice_index order index < length here →
    flag ≡ accepts nfa text at (slice_index order index) →
    ((k : ℕ) → k < index → slice_index_or here (slice_index order k) false ≡ accepts nfa text at (slice_index order k)) →
    (k : ℕ) → k < index + 1 → slice_index_or (slice_set here (slice_index order index) flag) (slice_index order k) false ≡ accepts nfa text at (slice_index order k)
flags_more nfa order text at here index flag inside is marks k below =
    ⊎_elim
    (λ (same : slice_index order k ≡ slice_index order index).
    ap (λ s. slice_index_or (slice_set here (slice_index order index) flag) s false) same ∙ get_or-set_same here (slice_index order index) flag false inside
    ∙ is ∙ ap (accepts nfa text at) (sym same))
    (λ (other : slice_index order k ≡ slice_index order index → ⊥).
    let before : k < index = ⊎_elim (λ yes. yes) (λ (past : index ≤ k). absurd (other (ap (λ i. slice_index order i) (omega (arith, past, below))))) (cases_lt k index) in
    get_or-set_other here (slice_index order index) (slice_index order k) flag false other ∙ marks k before)
    (cases_eq (slice_index order k) (slice_index order index))

-- with the flags of the whole order each state has its own
pub flags_done : (nfa : Nfa) (order : List ℕ) (text : List ℕ) (at : ℕ) (here : List Bool) → IsOrder nfa order →
    ((k : ℕ) → k < length order → slice_index_or here (slice_index order k) false ≡ accepts nfa text at (slice_index order k)) → AreFlags nfa text at here
flags_done nfa order text at here ordered marks q is_state =
    let place = ordered.has q (omega (arith, nfa.ranks_len)) in
    subst (λ s. slice_index_or here s false ≡ accepts nfa text at s) place.2 (marks place.0 place.1)

-- ---- where matches begin

pub begins-step : (nfa : Nfa) (text : List ℕ) (at : ℕ) → at ≤ length text → begins_from nfa text at ≡ (accepts nfa text at nfa.start || begins_from nfa text (at + 1))
unfolding begins_from accepts
begins-step nfa text at inside =
    ap is_some (first_between_unfold (run nfa text (length text) nfa.start) at (length text) inside) ∙ is_some_or _ _
    ∙ ap (λ b. b || is_some (first_between (run nfa text (length text) nfa.start) (at + 1) (length text))) (is_some_map _ (run nfa text (length text) nfa.start at))

pub begins-past : (nfa : Nfa) (text : List ℕ) → begins_from nfa text (length text + 1) ≡ false
unfolding begins_from
begins-past nfa text = ap is_some (first_between_past (run nfa text (length text) nfa.start) (length text + 1) (length text) (omega arith))

or_true : (b : Bool) → (b || true) ≡ true
or_true true = refl
or_true false = refl

or_false : (b : Bool) → (b || false) ≡ b
or_false true = refl
or_false false = refl

-- if none begins later, the flag of the first state decides
pub begins-here : (nfa : Nfa) (text : List ℕ) (at : ℕ) (flag : Bool) → at ≤ length text → flag ≡ accepts nfa text at nfa.start → false ≡ begins_from nfa text (at + 1) → flag ≡ begins_from nfa text at
begins-here nfa text at flag inside is none =
    is ∙ sym (or_false _) ∙ ap (λ b. accepts nfa text at nfa.start || b) none ∙ sym (begins-step nfa text at inside)

-- a match that begins at a place or after it begins at the first or after it
pub begins-first : (nfa : Nfa) (text : List ℕ) (at : ℕ) → at ≤ length text → true ≡ begins_from nfa text at → true ≡ begins_from nfa text 0
begins-first nfa text zero inside found = found
begins-first nfa text (suc at) inside found =
    let later : true ≡ begins_from nfa text (at + 1) = found ∙ ap (begins_from nfa text) (omega arith) in
    begins-first nfa text at (omega arith) (sym (begins-step nfa text at (omega arith) ∙ ap (λ b. accepts nfa text at nfa.start || b) (sym later) ∙ or_true _))
