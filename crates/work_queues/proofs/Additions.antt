-- A number that is added, and a queue that is opened.
use Rattle.std.proofs.Common.{◌≡◌, ◌≢◌, ◌⊎◌, ◌≤◌, ◌+◌, ℕ, zero, suc, false, List, [], ◌∷◌, ◌++◌, map, set, length, Some, nat_lt, inl, inr, refl, sym, ap, ◌∙◌, arith}
use Rattle.std.specs.Prelude.{slice_get}
use Rattle.std.proofs.lemmas.Bool.Decides.{nat_tests}
use Rattle.std.proofs.lemmas.Option.{slice_get_within}
use Rattle.std.proofs.Common.{length-append}
use Rattle.std.proofs.lemmas.List.{length-map}
use Rattle.work_queues.specs.Queues.{numbers_of, queued_of, seat_of, seats, IsPlaced}
use Rattle.work_queues.specs.declared.queues.Member.{Member}
use Rattle.work_queues.specs.declared.queues.Queue.{Queue}
use Rattle.work_queues.specs.declared.queues.Position.{Position}
use Rattle.work_queues.specs.declared.queues.Queues.{Queues}
use Rattle.work_queues.proofs.QueueLaws.{equal, unequal, compare_numbers, numbers_at, numbers-set_same, numbers-set_other, queued-set_even}

-- ---- one element more

pub get-append : {X : Type 0} (xs : List X) (y : X) (i : ℕ) (x : X) → slice_get xs i ≡ Some x → slice_get (xs ++ y ∷ []) i ≡ Some x
get-append [] y i x at = cc
get-append (z ∷ xs) y zero x at = at
get-append (z ∷ xs) y (suc i) x at = get-append xs y i x at

pub get-append_last : {X : Type 0} (xs : List X) (y : X) → slice_get (xs ++ y ∷ []) (length xs) ≡ Some y
get-append_last [] y = refl
get-append_last (z ∷ xs) y = get-append_last xs y

pub get-append_cases : {X : Type 0} (xs : List X) (y : X) (i : ℕ) (x : X) → slice_get (xs ++ y ∷ []) i ≡ Some x → (slice_get xs i ≡ Some x) ⊎ ((i ≡ length xs) × (y ≡ x))
get-append_cases [] y zero x at = inr (refl, cc)
get-append_cases [] y (suc i) x at = cc
get-append_cases (z ∷ xs) y zero x at = inl at
get-append_cases (z ∷ xs) y (suc i) x at = elim (get-append_cases xs y i x at) [ inl h ↦ inl h | inr h ↦ inr (ap suc h.0, h.1) ]

pub map-append : {A B : Type 0} (f : A → B) (xs : List A) (y : A) → map f (xs ++ y ∷ []) ≡ map f xs ++ f y ∷ []
map-append f [] y = refl
map-append f (x ∷ xs) y = ap (λ z. f x ∷ z) (map-append f xs y)

pub map-each : {A B : Type 0} (f g : A → B) → ((x : A) → f x ≡ g x) → (xs : List A) → map f xs ≡ map g xs
map-each f g each [] = refl
map-each f g each (x ∷ xs) = let first = each x in let rest = map-each f g each xs in cc

-- ---- an empty queue more

pub numbers-append : (queues : List Queue) (empty : Queue) → empty.members.items ≡ [] → (queue : ℕ) → numbers_of (queues ++ empty ∷ []) queue ≡ numbers_of queues queue
numbers-append [] empty none zero = ap (λ z. map (λ (m : Member). m.number) z) none
numbers-append [] empty none (suc queue) = refl
numbers-append (first ∷ others) empty none zero = refl
numbers-append (first ∷ others) empty none (suc queue) = numbers-append others empty none queue

pub queued-append : (queues : List Queue) (empty : Queue) → empty.queued ≡ 0 → (queue : ℕ) → queued_of (queues ++ empty ∷ []) queue ≡ queued_of queues queue
queued-append [] empty none zero = none
queued-append [] empty none (suc queue) = refl
queued-append (first ∷ others) empty none zero = refl
queued-append (first ∷ others) empty none (suc queue) = queued-append others empty none queue

-- ---- a number more

-- what the code of an addition leaves
pub record IsAdded (old new : Queues) (queue : ℕ) (here there : Queue) (member : Member) : Type 0 where
  pub at : slice_get old.queues.items queue ≡ Some here
  pub queues : new.queues.items ≡ set old.queues.items queue there
  pub members : there.members.items ≡ here.members.items ++ member ∷ []
  pub queued : there.queued ≡ here.queued
  pub number : member.number ≡ length old.places.items
  pub places : new.places.items ≡ old.places.items ++ record { queue = queue; place = length here.members.items } ∷ []

pub added_queued : (old new : Queues) (queue : ℕ) (here there : Queue) (member : Member) → IsAdded old new queue here there member
    → (other : ℕ) → queued_of new.queues.items other ≡ queued_of old.queues.items other
added_queued old new queue here there member is other = ap (λ z. queued_of z other) is.queues ∙ queued-set_even old.queues.items queue here there is.at is.queued other

added_numbers : (old new : Queues) (queue : ℕ) (here there : Queue) (member : Member) → IsAdded old new queue here there member
    → numbers_of new.queues.items queue ≡ numbers_of old.queues.items queue ++ length old.places.items ∷ []
added_numbers old new queue here there member is =
    ap (λ z. numbers_of z queue) is.queues
    ∙ numbers-set_same old.queues.items queue there (slice_get_within old.queues.items queue here is.at)
    ∙ ap (λ z. map (λ (m : Member). m.number) z) is.members
    ∙ map-append (λ (m : Member). m.number) here.members.items member
    ∙ ap (λ z. z ++ member.number ∷ []) (sym (numbers_at old.queues.items queue here is.at))
    ∙ ap (λ z. numbers_of old.queues.items queue ++ z ∷ []) is.number

added_elsewhere : (old new : Queues) (queue : ℕ) (here there : Queue) (member : Member) → IsAdded old new queue here there member
    → (other : ℕ) → other ≢ queue → numbers_of new.queues.items other ≡ numbers_of old.queues.items other
added_elsewhere old new queue here there member is other differ = ap (λ z. numbers_of z other) is.queues ∙ numbers-set_other old.queues.items queue other there differ

added_len : (old new : Queues) (queue : ℕ) (here there : Queue) (member : Member) → IsAdded old new queue here there member → length (numbers_of old.queues.items queue) ≡ length here.members.items
added_len old new queue here there member is = ap (λ z. length z) (numbers_at old.queues.items queue here is.at) ∙ simp length-map

added_found : (old new : Queues) (queue : ℕ) (here there : Queue) (member : Member) → IsPlaced old → IsAdded old new queue here there member → (other place number : ℕ)
    → slice_get (numbers_of new.queues.items other) place ≡ Some number → slice_get new.places.items number ≡ Some (record { queue = other; place = place })
added_found old new queue here there member placed is other place number stands = elim (compare_numbers other queue) [ equal h ↦ inside h | unequal h ↦ outside h ]
  where
    kept : slice_get (numbers_of old.queues.items other) place ≡ Some number → slice_get new.places.items number ≡ Some (record { queue = other; place = place })
    kept was = ap (λ z. slice_get z number) is.places ∙ get-append old.places.items (record { queue = queue; place = length here.members.items }) number (record { queue = other; place = place }) (placed.found other place number was)

    outside : other ≢ queue → slice_get new.places.items number ≡ Some (record { queue = other; place = place })
    outside h = kept (ap (λ z. slice_get z place) (sym (added_elsewhere old new queue here there member is other h)) ∙ stands)

    inside : other ≡ queue → slice_get new.places.items number ≡ Some (record { queue = other; place = place })
    inside h =
        elim (get-append_cases (numbers_of old.queues.items queue) (length old.places.items) place number
        (ap (λ z. slice_get z place) (sym (added_numbers old new queue here there member is)) ∙ ap (λ z. slice_get (numbers_of new.queues.items z) place) (sym h) ∙ stands)) [
          | inl was ↦ kept (ap (λ z. slice_get (numbers_of old.queues.items z) place) h ∙ was)
          | inr last ↦
              (let at_end : place ≡ length here.members.items = last.0 ∙ added_len old new queue here there member is in
              ap (λ z. slice_get z number) is.places
              ∙ ap (λ z. slice_get (old.places.items ++ record { queue = queue; place = length here.members.items } ∷ []) z) (sym last.1)
              ∙ get-append_last old.places.items (record { queue = queue; place = length here.members.items })
              ∙ rw (h, at_end) refl)
        ]

added_held : (old new : Queues) (queue : ℕ) (here there : Queue) (member : Member) → IsPlaced old → IsAdded old new queue here there member → (number : ℕ) (place : Position)
    → slice_get new.places.items number ≡ Some place → slice_get (numbers_of new.queues.items place.queue) place.place ≡ Some number
added_held old new queue here there member placed is number place stands =
    elim (get-append_cases old.places.items (record { queue = queue; place = length here.members.items }) number place (ap (λ z. slice_get z number) (sym is.places) ∙ stands)) [
      | inl was ↦ kept (placed.held number place was)
      | inr last ↦
          (let is_last : place ≡ record { queue = queue; place = length here.members.items } = sym last.1 in
          rw is_last (
          ap (λ z. slice_get z (length here.members.items)) (added_numbers old new queue here there member is)
          ∙ ap (λ z. slice_get (numbers_of old.queues.items queue ++ length old.places.items ∷ []) z) (sym (added_len old new queue here there member is))
          ∙ get-append_last (numbers_of old.queues.items queue) (length old.places.items)
          ∙ ap (λ z. Some z) (sym last.0)))
    ]
  where
    kept : slice_get (numbers_of old.queues.items place.queue) place.place ≡ Some number → slice_get (numbers_of new.queues.items place.queue) place.place ≡ Some number
    kept was =
        elim (compare_numbers place.queue queue) [
          | equal h ↦
              ap (λ z. slice_get (numbers_of new.queues.items z) place.place) h
              ∙ ap (λ z. slice_get z place.place) (added_numbers old new queue here there member is)
              ∙ get-append (numbers_of old.queues.items queue) (length old.places.items) place.place number (ap (λ z. slice_get (numbers_of old.queues.items z) place.place) (sym h) ∙ was)
          | unequal h ↦ ap (λ z. slice_get z place.place) (added_elsewhere old new queue here there member is place.queue h) ∙ was
        ]

added_within : (old new : Queues) (queue : ℕ) (here there : Queue) (member : Member) → IsPlaced old → IsAdded old new queue here there member
    → (other : ℕ) → queued_of new.queues.items other ≤ length (numbers_of new.queues.items other)
added_within old new queue here there member placed is other =
    let within = placed.within other in
    let queued = added_queued old new queue here there member is other in
    elim (compare_numbers other queue) [
      | equal h ↦
          (let within_queue : queued_of old.queues.items queue ≤ length (numbers_of old.queues.items queue) = placed.within queue in
          let queued_queue = added_queued old new queue here there member is queue in
          let longer : length (numbers_of new.queues.items queue) ≡ length (numbers_of old.queues.items queue) + 1 = ap (λ z. length z) (added_numbers old new queue here there member is) ∙ simp length-append (omega arith) in
          rw h (omega (arith, within_queue, queued_queue, longer)))
      | unequal h ↦ rw (queued, added_elsewhere old new queue here there member is other h) within
    ]

pub added_placed : (old new : Queues) (queue : ℕ) (here there : Queue) (member : Member) → IsPlaced old → IsAdded old new queue here there member → IsPlaced new
added_placed old new queue here there member placed is =
    record {
      found = added_found old new queue here there member placed is;
      held = added_held old new queue here there member placed is;
      within = added_within old new queue here there member placed is;
    }

pub added_seats : (old new : Queues) (queue : ℕ) (here there : Queue) (member : Member) → IsPlaced old → IsAdded old new queue here there member
    → seats new ≡ seats old ++ record { queue = queue; is_queued = false } ∷ []
added_seats old new queue here there member placed is =
    ap (λ z. map (seat_of new.queues.items) z) is.places
    ∙ map-append (seat_of new.queues.items) old.places.items (record { queue = queue; place = length here.members.items })
    ∙ ap (λ z. z ++ seat_of new.queues.items (record { queue = queue; place = length here.members.items }) ∷ []) (map-each (seat_of new.queues.items) (seat_of old.queues.items) even old.places.items)
    ∙ ap (λ z. seats old ++ record { queue = queue; is_queued = z } ∷ []) outside
  where
    even : (place : Position) → seat_of new.queues.items place ≡ seat_of old.queues.items place
    even place = ap (λ z. record { queue = place.queue; is_queued = nat_lt place.place z }) (added_queued old new queue here there member is place.queue)

    outside : nat_lt (length here.members.items) (queued_of new.queues.items queue) ≡ false
    outside =
        let within : queued_of old.queues.items queue ≤ length (numbers_of old.queues.items queue) = placed.within queue in
        let queued : queued_of new.queues.items queue ≡ queued_of old.queues.items queue = added_queued old new queue here there member is queue in
        let len : length (numbers_of old.queues.items queue) ≡ length here.members.items = added_len old new queue here there member is in
        let few : queued_of new.queues.items queue ≤ length here.members.items = omega arith in
        grind (arith, nat_tests)
