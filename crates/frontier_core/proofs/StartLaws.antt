-- What the opening holds, and what its lines say.
use Rattle.std.proofs.Common.{◌≡◌, ◌⊎◌, ℕ, ◌+◌, ◌≤◌, ◌<◌, Bool, true, false, ◌||◌, List, [], ◌∷◌, ◌++◌, length, map, Some, None, Option, refl, sym, ap, ◌∙◌, inl, inr, subst, zero, suc, le_refl, le_trans, arith}
use Rattle.std.proofs.lemmas.List.{append-nil}
use Rattle.std.specs.Prelude.{Contains, count_by}
use Rattle.std.specs.List.{list_any}
use Rattle.std.specs.Str.{bytes_eq}
use Rattle.frontier_core.specs.Tables.{Text, lookup, put}
use Rattle.frontier_core.specs.Routes.{Policy, is_start, is_exempt}
use Rattle.frontier_core.specs.Machine.{State, Slot, Progress, Waiting, slot, with_starts, opened}
use Rattle.frontier_core.specs.Owed.{owed, is_out_to_worker}
use Rattle.frontier_core.specs.Lines.{pages, rule_asks, IsFalling, IsReplay, opened_lines}
use Rattle.frontier_core.specs.SpreadCounts.{spreads}
use Rattle.frontier_core.specs.inner.TableCalls.{IsDistinct}
use Rattle.frontier_core.specs.declared.event.Event.{Event}
use Rattle.frontier_core.specs.declared.event.Event.TheVariants as line
use Rattle.frontier_core.proofs.TableLaws.{Compared, same, other, compare_texts, text_same, same_text, other_text, lookup-put_same, lookup-put_other, length-put_held, length-put_absent, distinct-put}
use Rattle.frontier_core.proofs.RouteLaws.{contains_head, contains_tail, contains_cases}
use Rattle.frontier_core.proofs.Counts.{one, tally, tally-put_held, tally-put_new}

-- ---- members of the starts

pub test_of_start : (starts : List Text) (u : Text) → Contains starts u → list_any (λ start. bytes_eq u start) starts ≡ true
test_of_start [] u (k, lt, e) = absurd (omega arith)
test_of_start (first ∷ more) u among =
    elim (contains_cases first u more among) [
      | inl is ↦ (let here : bytes_eq u first ≡ true = subst (λ z. bytes_eq u z ≡ true) (sym is) (text_same u) in rw here refl)
      | inr later ↦ go (bytes_eq u first) (test_of_start more u later)
    ]
  where
    go : (b : Bool) {c : Bool} → c ≡ true → (b || c) ≡ true
    go true rest = refl
    go false rest = rest

pub start_of_test : (starts : List Text) (u : Text) → list_any (λ start. bytes_eq u start) starts ≡ true → Contains starts u
start_of_test [] u passed = cc
start_of_test (first ∷ more) u passed =
    elim (compare_texts u first) [
      | same k e ↦ subst (λ z. Contains (first ∷ more) z) (sym k) (contains_head first more)
      | other k e ↦ contains_tail first u more (start_of_test more u (rw e at passed))
    ]

-- ---- what is held

-- who waits at 0 does so with more starts
starts_keep : (entries : List (Text × Slot)) (starts : List Text) (u : Text) → lookup entries u ≡ Some (slot 0 Waiting) → lookup (with_starts entries starts) u ≡ Some (slot 0 Waiting)
starts_keep entries [] u held = held
starts_keep entries (start ∷ more) u held =
    starts_keep (put entries start (slot 0 Waiting)) more u
    (elim (compare_texts u start) [
      | same k e ↦ subst (λ z. lookup (put entries start (slot 0 Waiting)) z ≡ Some (slot 0 Waiting)) (sym k) (lookup-put_same entries start (slot 0 Waiting))
      | other k e ↦ lookup-put_other entries start (slot 0 Waiting) u k ∙ held
    ])

-- each start waits at 0
pub starts_wait : (entries : List (Text × Slot)) (starts : List Text) (u : Text) → Contains starts u → lookup (with_starts entries starts) u ≡ Some (slot 0 Waiting)
starts_wait entries [] u (k, lt, e) = absurd (omega arith)
starts_wait entries (first ∷ more) u among =
    elim (contains_cases first u more among) [
      | inl is ↦ starts_keep (put entries first (slot 0 Waiting)) more u
          (subst (λ z. lookup (put entries first (slot 0 Waiting)) z ≡ Some (slot 0 Waiting)) is (lookup-put_same entries first (slot 0 Waiting)))
      | inr later ↦ starts_wait (put entries first (slot 0 Waiting)) more u later
    ]

-- what is held is a start that waits at 0, or was held before
pub held_start : (entries : List (Text × Slot)) (starts : List Text) (u : Text) (e : Slot) → lookup (with_starts entries starts) u ≡ Some e
    → (Contains starts u × (e ≡ slot 0 Waiting)) ⊎ (lookup entries u ≡ Some e)
held_start entries [] u e held = inr held
held_start entries (first ∷ more) u e held =
    elim (held_start (put entries first (slot 0 Waiting)) more u e held) [
      | inl (among, is) ↦ inl (contains_tail first u more among, is)
      | inr was ↦ elim (compare_texts u first) [
        | same k q ↦
            (let now : lookup (put entries first (slot 0 Waiting)) u ≡ Some (slot 0 Waiting) =
            subst (λ z. lookup (put entries first (slot 0 Waiting)) z ≡ Some (slot 0 Waiting)) (sym k) (lookup-put_same entries first (slot 0 Waiting)) in
            let both : Some e ≡ Some (slot 0 Waiting) = sym was ∙ now in
            let is : e ≡ slot 0 Waiting = cc in
            inl (subst (λ z. Contains (first ∷ more) z) (sym k) (contains_head first more), is))
        | other k q ↦ inr (sym (lookup-put_other entries first (slot 0 Waiting) u k) ∙ was)
      ]
    ]

-- a slot that is there stays by being put there again
pub put_again : {V : Type 0} (entries : List (Text × V)) (u : Text) (v : V) → lookup entries u ≡ Some v → put entries u v ≡ entries
put_again [] u v held = cc
put_again (entry ∷ entries) u v held =
    elim (compare_texts entry.0 u) [
      | same k e ↦
          (let found : Some entry.1 ≡ Some v = rw e at held in
          let is : entry.1 ≡ v = cc in
          rw e (ap (λ z. (entry.0, z) ∷ entries) (sym is)))
      | other k e ↦ rw e (ap (λ z. entry ∷ z) (put_again entries u v (rw e at held)))
    ]

pub distinct_starts : (entries : List (Text × Slot)) (starts : List Text) → IsDistinct entries → IsDistinct (with_starts entries starts)
distinct_starts entries [] h = h
distinct_starts entries (start ∷ more) h = distinct_starts (put entries start (slot 0 Waiting)) more (distinct-put entries start (slot 0 Waiting) h)

pub put_one : (entries : List (Text × Slot)) (u : Text) (new : Slot) → length (put entries u new) ≤ length entries + 1
put_one entries u new = go (lookup entries u) refl
  where
    go : (o : Option Slot) → lookup entries u ≡ o → length (put entries u new) ≤ length entries + 1
    go None f = let long = length-put_absent entries u new f in omega (arith, long)
    go (Some old) f = let long = length-put_held entries u old new f in omega (arith, long)

pub few_starts : (entries : List (Text × Slot)) (starts : List Text) → length (with_starts entries starts) ≤ length entries + length starts
few_starts entries [] = omega arith
few_starts entries (start ∷ more) =
    let rest : length (with_starts (put entries start (slot 0 Waiting)) more) ≤ length (put entries start (slot 0 Waiting)) + length more = few_starts (put entries start (slot 0 Waiting)) more in
    let first : length (put entries start (slot 0 Waiting)) ≤ length entries + 1 = put_one entries start (slot 0 Waiting) in
    omega (arith, rest, first)

-- a table with something in it isn't empty
pub some_held : {V : Type 0} (entries : List (Text × V)) (u : Text) (v : V) → lookup entries u ≡ Some v → 0 < length entries
some_held [] u v held = cc
some_held (entry ∷ entries) u v held = omega arith

-- nothing passes a test that waiting fails
pub none_wait : (h : Text → Progress → Bool) → ((u : Text) → h u Waiting ≡ false) → (entries : List (Text × Slot)) (starts : List Text)
    → ((u : Text) (e : Slot) → lookup entries u ≡ Some e → e ≡ slot 0 Waiting)
    → tally h entries ≡ 0 → tally h (with_starts entries starts) ≡ 0
none_wait h fails entries [] wait none = none
none_wait h fails entries (start ∷ more) wait none =
    none_wait h fails (put entries start (slot 0 Waiting)) more each (put_none (lookup entries start) refl)
  where
    each : (u : Text) (e : Slot) → lookup (put entries start (slot 0 Waiting)) u ≡ Some e → e ≡ slot 0 Waiting
    each u e held =
        elim (held_start entries (start ∷ []) u e held) [
          | inl (among, is) ↦ is
          | inr was ↦ wait u e was
        ]

    put_none : (o : Option Slot) → lookup entries start ≡ o → tally h (put entries start (slot 0 Waiting)) ≡ 0
    put_none None f = tally-put_new h entries start (slot 0 Waiting) f ∙ rw (none, fails start) refl
    put_none (Some old) f =
        let is : old ≡ slot 0 Waiting = wait start old f in
        ap (λ z. tally h z) (put_again entries start (slot 0 Waiting) (f ∙ ap (λ (z : Slot). Some z) is)) ∙ none

pub none_wait_opened : (h : Text → Progress → Bool) → ((u : Text) → h u Waiting ≡ false) → (starts : List Text) → tally h (with_starts [] starts) ≡ 0
none_wait_opened h fails starts = none_wait h fails [] starts (λ u e held. cc) refl

-- ---- the lines

pub opened_replay : (p : Policy) → IsReplay p (opened_lines p) (opened p)
opened_replay p = ([], [], (refl, refl), sym (append-nil (opened_lines p)))

-- the line of a stop is owed, and no more
pub owed_opened : (p : Policy) → owed (opened p) ≡ 1
owed_opened p = ap (λ n. n + 0 + 1) (none_wait_opened (λ u q. is_out_to_worker q) (λ u. refl) p.starts)

pub spreads_opened : (u : Text) (starts : List Text) (events : List Event) → spreads u (map (λ start. line.Opened start) starts ++ events) ≡ spreads u events
spreads_opened u [] events = refl
spreads_opened u (start ∷ more) events = spreads_opened u more events

pub falling_opened : (starts : List Text) (events : List Event) → IsFalling events → IsFalling (map (λ start. line.Opened start) starts ++ events)
falling_opened [] events falls = falls
falling_opened (start ∷ more) events falls = (tt, falling_opened more events falls)

pub pages_opened : (starts : List Text) (events : List Event) → pages (map (λ start. line.Opened start) starts ++ events) ≡ pages events
pages_opened [] events = refl
pages_opened (start ∷ more) events = pages_opened more events

pub rules_opened : (starts : List Text) (events : List Event) → rule_asks (map (λ start. line.Opened start) starts ++ events) ≡ rule_asks events
rules_opened [] events = refl
rules_opened (start ∷ more) events = rules_opened more events
