-- What stays so of the open ones if one comes, goes or changes.
use Rattle.std.proofs.Common.{◌≡◌, ◌≢◌, ◌<◌, ◌≤◌, ◌+◌, ◌∙◌, ℕ, Bool, true, false, ◌&&◌, List, Option, None, Some, ap, sym, refl, subst, ⊎_elim, [], ◌∷◌, ◌++◌, length, get_or, set, take, drop, suc, arith}
use Rattle.std.specs.Prelude.{AllPairs, MatchOption, remove, slice_get, slice_set}
use Rattle.std.specs.List.{AllWithin, HoldsAt}
use Rattle.std.proofs.lemmas.List.Elements.{All-push, All-append, All-take, All-drop, All-weaker}
use Rattle.std.proofs.lemmas.List.Quantifiers.{all_pairs_push, all_pairs_remove}
use Rattle.std.proofs.lemmas.List.Edits.{length-remove, get_or-remove_below, get_or-remove_above}
use Rattle.std.proofs.lemmas.List.{length_push, get_or-set_same, get_or-set_other}
use Rattle.std.proofs.Math.ListN.{length-set}
use Rattle.std.proofs.lemmas.Option.{slice_get_within, get_or_from_slice_get, slice_get-get_or}
use Rattle.std.proofs.lemmas.Bool.{ne_eqb, cases_eq, cases_lt}
use Rattle.tcp_connect.specs.Standing.{Stand, Pool, IsStandPool, NonePasses, IsFirst, Removes, EndsFirst, MakesRoom, has_number, waits, waits_for, count_to}
use Rattle.tcp_connect.specs.declared.standing.TheConstants.{MOST}

-- their numbers differ
abbrev pub Differ : {W : Type 0} → Stand W → Stand W → Type 0
Differ one other = one.number ≢ other.number

-- one goes
pub IsStandPool-remove : {W : Type 0} (stands : List (Stand W)) (entered at : ℕ) → IsStandPool (record { stands = stands; entered = entered }) → at < length stands → IsStandPool (record { stands = remove stands at; entered = entered })
IsStandPool-remove stands entered at was within =
    let shorter = length-remove stands at within in
    record {
      few = omega (arith, was.few);
      given = All-append (λ stand. stand.number < entered) (take at stands) (drop (suc at) stands)
          (All-take (λ stand. stand.number < entered) at stands was.given)
          (All-drop (λ stand. stand.number < entered) (suc at) stands was.given);
      distinct = all_pairs_remove Differ stands at within was.distinct;
    }

-- a change that keeps the number leaves all numbers as they were
same_number : {W : Type 0} (stands : List (Stand W)) (at : ℕ) (was now : Stand W) → slice_get stands at ≡ Some was → now.number ≡ was.number
    → (k : ℕ) (d : Stand W) → k < length stands → (get_or (set stands at now) k d).number ≡ (get_or stands k d).number
same_number stands at was now there same k d within =
    ⊎_elim
    (λ (here : k ≡ at).
    let first : get_or (set stands at now) at d ≡ now = get_or-set_same stands at now d (slice_get_within stands at was there) in
    let before : get_or stands at d ≡ was = get_or_from_slice_get stands at was d there in
    subst (λ (n : ℕ). (get_or (set stands at now) n d).number ≡ (get_or stands n d).number) (sym here)
    (ap (λ s. s.number) first ∙ same ∙ ap (λ s. s.number) (sym before)))
    (λ (elsewhere : k ≡ at → ⊥). ap (λ s. s.number) (get_or-set_other stands at k now d elsewhere))
    (cases_eq k at)

-- one changes, and keeps its number
pub IsStandPool-set : {W : Type 0} (stands : List (Stand W)) (entered at : ℕ) (was now : Stand W) → IsStandPool (record { stands = stands; entered = entered })
    → slice_get stands at ≡ Some was → now.number ≡ was.number → IsStandPool (record { stands = slice_set stands at now; entered = entered })
IsStandPool-set stands entered at was now pool there same =
    let long = length-set stands at now in
    record {
      few = omega (arith, pool.few);
      given = λ k d within.
          let inside : k < length stands = omega arith in
          let number = same_number stands at was now there same k d inside in
          let given : (get_or stands k d).number < entered = pool.given k d inside in
          omega arith;
      distinct = λ i j d less within.
          let later : j < length stands = omega arith in
          let sooner : i < length stands = omega arith in
          let one = same_number stands at was now there same i d sooner in
          let other = same_number stands at was now there same j d later in
          let differ : (get_or stands i d).number ≢ (get_or stands j d).number = pool.distinct i j d less later in
          λ equal. differ (sym one ∙ equal ∙ other);
    }

-- an open one beside another has another number
beside : {W : Type 0} (stands : List (Stand W)) (at : ℕ) (was : Stand W) → AllPairs Differ stands → slice_get stands at ≡ Some was
    → (k : ℕ) (d : Stand W) → k < length (remove stands at) → (get_or (remove stands at) k d).number ≢ was.number
beside stands at was distinct there k d within =
    let inside : at < length stands = slice_get_within stands at was there in
    let shorter = length-remove stands at inside in
    let read : get_or stands at d ≡ was = get_or_from_slice_get stands at was d there in
    let number : (get_or stands at d).number ≡ was.number = ap (λ s. s.number) read in
    ⊎_elim
    (λ (before : k < at).
    let kept : (get_or (remove stands at) k d).number ≡ (get_or stands k d).number = ap (λ s. s.number) (get_or-remove_below stands at d k before inside) in
    let differ : (get_or stands k d).number ≢ (get_or stands at d).number = distinct k at d before inside in
    λ equal. differ (sym kept ∙ equal ∙ sym number))
    (λ (behind : at ≤ k).
    let kept : (get_or (remove stands at) k d).number ≡ (get_or stands (k + 1) d).number = ap (λ s. s.number) (get_or-remove_above stands at d k behind inside) in
    let differ : (get_or stands at d).number ≢ (get_or stands (k + 1) d).number = distinct at (k + 1) d (omega arith) (omega arith) in
    λ equal. differ (number ∙ sym equal ∙ kept))
    (cases_lt k at)

-- one goes to the end, and keeps its number
pub IsStandPool-move : {W : Type 0} (stands : List (Stand W)) (entered at : ℕ) (was now : Stand W) → IsStandPool (record { stands = stands; entered = entered })
    → slice_get stands at ≡ Some was → now.number ≡ was.number → IsStandPool (record { stands = remove stands at ++ now ∷ []; entered = entered })
IsStandPool-move stands entered at was now pool there same =
    let inside : at < length stands = slice_get_within stands at was there in
    let shorter = length-remove stands at inside in
    let longer = length_push (remove stands at) now in
    let without = IsStandPool-remove stands entered at pool inside in
    let read : (get_or stands at was).number ≡ was.number = ap (λ s. s.number) (get_or_from_slice_get stands at was was there) in
    let given : (get_or stands at was).number < entered = pool.given at was inside in
    record {
      few = omega (arith, pool.few);
      given = All-push (λ stand. stand.number < entered) (remove stands at) now without.given (omega arith);
      distinct = all_pairs_push Differ (remove stands at) now without.distinct
          (λ k d within equal. beside stands at was pool.distinct there k d within (equal ∙ same));
    }

-- one comes, by the next number
pub IsStandPool-add : {W : Type 0} (stands : List (Stand W)) (entered : ℕ) (stand : Stand W) → IsStandPool (record { stands = stands; entered = entered }) → length stands < MOST → stand.number ≡ entered → IsStandPool (record { stands = stands ++ stand ∷ []; entered = entered + 1 })
IsStandPool-add stands entered stand was room next =
    let longer = length_push stands stand in
    record {
      few = omega arith;
      given = All-push (λ stand. stand.number < entered + 1) stands stand
          (All-weaker (λ stand. stand.number < entered) (λ stand. stand.number < entered + 1) (λ x h. omega arith) stands was.given)
          (omega arith);
      distinct = all_pairs_push Differ stands stand was.distinct
          (λ k d within equal. let given : (get_or stands k d).number < entered = was.given k d within in omega arith);
    }

-- none has the next number
pub next_is_fresh : {W : Type 0} (stands : List (Stand W)) (entered : ℕ) → IsStandPool (record { stands = stands; entered = entered }) → NonePasses (has_number entered) stands
next_is_fresh stands entered was = λ k stand there.
    let same : (get_or stands k stand).number ≡ stand.number = ap (λ s. s.number) (get_or_from_slice_get stands k stand stand there) in
    let given : (get_or stands k stand).number < entered = was.given k stand (slice_get_within stands k stand there) in
    ne_eqb stand.number entered (λ equal. omega arith)

first_true : (a b : Bool) → (a && b) ≡ true → a ≡ true
first_true true b both = refl
first_true false b both = both

-- the first of those that pass was taken away, and it waited
pub EndsFirst-removes : {W : Type 0} (test : Stand W → Bool) (old new : Pool W) (at : ℕ) (stand : Stand W) (ended : Option W)
    → IsFirst test old.stands at stand → waits stand ≡ true → Removes at old ended new → EndsFirst test old ended new
EndsFirst-removes test old new at stand None first waiting gone =
    let same : gone.0 ≡ stand = cc (gone.1, first.there) in
    let none : stand.waiting ≡ None = sym (ap (λ s. s.waiting) same) ∙ sym gone.2 in
    let idle : waits stand ≡ false = rw none refl in
    let never : true ≡ false = sym waiting ∙ idle in
    absurd cc
EndsFirst-removes test old new at stand (Some waited) first waiting gone =
    let same : gone.0 ≡ stand = cc (gone.1, first.there) in
    (at, stand, first, sym (ap (λ s. s.waiting) same) ∙ sym gone.2, gone.3)

-- if the origin is full, the first that waits for it goes
pub MakesRoom-full : {W : Type 0} (of : List ℕ) (most : ℕ) (old new : Pool W) (ended : Option W)
    → most ≤ count_to old.stands of → EndsFirst (waits_for of) old ended new → MakesRoom of most old ended new
MakesRoom-full of most old new ended many ends =
    record { full = λ _. ends; whole = λ few _. absurd (omega arith); room = λ few _. absurd (omega arith) }

-- if all are open that may be, the first that waits goes
pub MakesRoom-whole : {W : Type 0} (of : List ℕ) (most : ℕ) (old new : Pool W) (ended : Option W)
    → count_to old.stands of < most → MOST ≤ length old.stands → EndsFirst waits old ended new → MakesRoom of most old ended new
MakesRoom-whole of most old new ended few many ends =
    record { full = λ full. absurd (omega arith); whole = λ _ _. ends; room = λ _ room. absurd (omega arith) }

-- if there is room, none goes
pub MakesRoom-none : {W : Type 0} (of : List ℕ) (most : ℕ) (old : Pool W)
    → count_to old.stands of < most → length old.stands < MOST → MakesRoom of most old None old
MakesRoom-none of most old few room =
    record { full = λ full. absurd (omega arith); whole = λ _ whole. absurd (omega arith); room = λ _ _. (refl, refl) }

-- the first that waits for an origin was taken away
pub EndsFirst-waits_for : {W : Type 0} (of : List ℕ) (old new : Pool W) (at : ℕ) (stand : Stand W) (ended : Option W)
    → IsFirst (waits_for of) old.stands at stand → Removes at old ended new → EndsFirst (waits_for of) old ended new
EndsFirst-waits_for of old new at stand ended first gone =
    EndsFirst-removes (waits_for of) old new at stand ended first (first_true _ _ first.passes) gone

-- what is at a place within
there_within : {X : Type 0} (xs : List X) (at : ℕ) → at < length xs → (x : X) × (slice_get xs at ≡ Some x)
there_within [] at within = absurd (omega arith)
there_within (x ∷ xs) at within = (get_or (x ∷ xs) at x, slice_get-get_or (x ∷ xs) at x within)

-- the first that passes, from what each was tested to be
pub first_from_tests : {W : Type 0} (test : Stand W → Bool) (stands : List (Stand W)) (answer : Option ℕ)
    → MatchOption answer (AllWithin (λ stand. test stand ≡ false) stands 0 (length stands))
    (λ at. (at < length stands) × HoldsAt (λ stand. test stand ≡ true) stands at × AllWithin (λ stand. test stand ≡ false) stands 0 at)
    → MatchOption answer (NonePasses test stands) (λ at. (stand : Stand W) × IsFirst test stands at stand)
first_from_tests test stands None none = λ k stand there.
    let read : get_or stands k stand ≡ stand = get_or_from_slice_get stands k stand stand there in
    subst (λ s. test s ≡ false) read (none k stand (omega arith) (slice_get_within stands k stand there))
first_from_tests test stands (Some at) found =
    let (stand, there) = there_within stands at found.0 in
    let read : get_or stands at stand ≡ stand = get_or_from_slice_get stands at stand stand there in (
      stand,
      record {
        there = there;
        passes = subst (λ s. test s ≡ true) read (found.1 stand);
        first = λ k other sooner before.
            let here : get_or stands k other ≡ other = get_or_from_slice_get stands k other other before in
            subst (λ s. test s ≡ false) here (found.2 k other (omega arith) sooner);
      },
    )
