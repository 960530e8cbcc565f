-- What walks by places and by numbers say of notes of which no two are named alike.
use Rattle.std.proofs.Common.{◌≡◌, ◌⊎◌, ℕ, ◌<◌, ◌≤◌, inl, inr, List, [], ◌∷◌, length, get_or, map, zero, Some, None, Option, sym, ap, ◌∙◌, subst, arith}
use Rattle.std.specs.Prelude.{All, Contains, IsSome, MatchOption}
use Rattle.std.specs.List.{filter_map}
use Rattle.std.specs.Option.{is_some}
use Rattle.std.proofs.lemmas.Bool.{false≢true}
use Rattle.std.proofs.lemmas.List.{length-map}
use Rattle.frontier_core.specs.Tables.{Text, IsOnce}
use Rattle.frontier_core.specs.Machine.{State, answers}
use Rattle.frontier_core.specs.Invariants.{IsGivenUp}
use Rattle.frontier_core.specs.Readers.{Recorded, record_of}
use Rattle.frontier_core.proofs.TableLaws.{same, other, compare_texts}
use Rattle.frontier_core.proofs.RouteLaws.{contains_tail, contains_cases}
use Rattle.fetcher.specs.declared.outcome.Outcome.{Outcome}
use Rattle.harvest.specs.Entries.{recorded_addresses}
use Rattle.harvest.proofs.OrderLaws.{Apart-from_once}
use Rattle.workers.specs.declared.note.PageNote.{PageNote}
use Rattle.workers.specs.inner.Noted.{StandsPage}
use Rattle.workers.specs.inner.Notes.{addresses}
use Rattle.workers.proofs.ComparisonLaws.{recorded_among}
use Rattle.workers.proofs.ConclusionLaws.{found_note}
use Rattle.workers.proofs.SiteLaws.{no_more}

-- what holds of the thing at a place holds of each of its name
pub by_place : {X : Type 0} (key : X → Text) (worker : X → ℕ) (xs : List X) (u : Text) (i n : ℕ) → IsOnce (map key xs) → i < length xs → ((d : X) → key (get_or xs i d) ≡ u)
    → ((d : X) → worker (get_or xs i d) ≡ n) → All (λ x. key x ≡ u → worker x ≡ n) xs
by_place key worker xs u i n once within here by k d lt named =
    let at : k ≡ i = Apart-from_once key xs once k i d lt within (named ∙ sym (here d)) in
    subst (λ (j : ℕ). worker (get_or xs j d) ≡ n) (sym at) (by d)

-- a text is among others, or isn't
among_or_not : (u : Text) (us : List Text) → Contains us u ⊎ (¬ Contains us u)
among_or_not u [] = inr (λ among. let (k, lt, is) = among in absurd (omega (arith, lt)))
among_or_not u (v ∷ us) = elim (compare_texts v u) [
  | same h t ↦ inl (zero, omega arith, h)
  | other h t ↦ elim (among_or_not u us) [
    | inl later ↦ inl (contains_tail v u us later)
    | inr none ↦ inr (λ among. elim (contains_cases v u us among) [
      | inl is ↦ absurd (h is)
      | inr later ↦ none later
    ])
  ]
]

-- texts that occur once, are all among others, and are as many: each of the others is among them
pub all_among : (us ks : List Text) → IsOnce us → ((u : Text) → Contains us u → Contains ks u) → length ks ≤ length us → (u : Text) → Contains ks u → Contains us u
all_among us ks once within few u there = elim (among_or_not u us) [
  | inl among ↦ among
  | inr none ↦ absurd (
      let more : length (u ∷ us) ≤ length ks = no_more (u ∷ us) ks (none, once) (λ v among. elim (contains_cases u v us among) [
        | inl is ↦ subst (λ (w : Text). Contains ks w) is there
        | inr later ↦ within v later
      ]) in
      omega (arith, more, few))
]

told_some : (told known : Option Outcome) (A : Type 0) → MatchOption told A (λ x. known ≡ Some x) → IsSome told → IsSome known
told_some None known A h some = absurd (false≢true some)
told_some (Some x) known A h some = ap is_some h

-- if of each note something was received that is in the table, and no more is recorded than was noted, all that is recorded was noted
pub recorded_noted : {B : Type 0} (s : State) (notes : List (PageNote B)) → IsOnce (addresses notes) → All (StandsPage s) notes → All (λ (note : PageNote B). IsSome note.outcome) notes
    → length (filter_map record_of s.entries) ≤ length notes → (u : Text) → IsSome ((answers s).outcome u) → Contains (addresses notes) u
recorded_noted {B = B} s notes once stand told few u some =
    let key : PageNote B → Text = λ note. note.address in
    let P : PageNote B → Type 0 = λ note. IsSome ((answers s).outcome note.address) in
    let all : All P notes = λ k d lt. told_some (get_or notes k d).outcome ((answers s).outcome (get_or notes k d).address) (IsGivenUp s (get_or notes k d).address) (stand k d lt) (told k d lt) in
    let long : length (addresses notes) ≡ length notes = length-map notes key in
    let many : length (recorded_addresses (filter_map record_of s.entries)) ≡ length (filter_map record_of s.entries) = length-map (filter_map record_of s.entries) (λ (recorded : Recorded). recorded.0) in
    all_among (addresses notes) (recorded_addresses (filter_map record_of s.entries)) once
    (λ v among. let (note, named, some') = found_note key P notes v all among in recorded_among s.entries v (subst (λ (w : Text). IsSome ((answers s).outcome w)) named some'))
    (omega (arith, long, many, few)) u (recorded_among s.entries u some)
