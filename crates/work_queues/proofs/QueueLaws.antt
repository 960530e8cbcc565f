-- Members that change places, and lists read by place.
use Rattle.std.proofs.Common.{◌≡◌, ◌≢◌, ◌<◌, ◌≤◌, ℕ, zero, suc, List, [], ◌∷◌, map, set, get_or, length, Option, Some, None, true, nat_lt, inl, inr, refl, sym, ap, ◌∙◌, arith}
use Rattle.std.specs.Prelude.{slice_get}
use Rattle.std.specs.Option.{option_map}
use Rattle.std.proofs.lemmas.Bool.Decides.{eqb_tells, nat_tests}
use Rattle.std.proofs.lemmas.Option.{slice_get-map, slice_get_within, slice_get-get_or}
use Rattle.std.proofs.lemmas.List.{length-map}
use Rattle.work_queues.specs.Queues.{Seat, numbers_of, queued_of, seat_of, seats, IsPlaced}
use Rattle.work_queues.specs.declared.queues.Member.{Member}
use Rattle.work_queues.specs.declared.queues.Queue.{Queue}
use Rattle.work_queues.specs.declared.queues.Position.{Position}
use Rattle.work_queues.specs.declared.queues.Queues.{Queues}

-- ---- lists

-- two numbers are one, or not
pub data Compared (a b : ℕ) : Type 0 where
  equal : a ≡ b → Compared a b
  unequal : a ≢ b → Compared a b

pub compare_numbers : (a b : ℕ) → Compared a b
compare_numbers a b = elim (eqb_tells a b) [ inl h ↦ equal h.1 | inr h ↦ unequal h.1 ]

pub get-set_same : {X : Type 0} (xs : List X) (i : ℕ) (y : X) → i < length xs → slice_get (set xs i y) i ≡ Some y
get-set_same [] i y lt = absurd (omega arith)
get-set_same (x ∷ xs) zero y lt = refl
get-set_same (x ∷ xs) (suc i) y lt = get-set_same xs i y (omega arith)

pub get-set_other : {X : Type 0} (xs : List X) (i j : ℕ) (y : X) → j ≢ i → slice_get (set xs i y) j ≡ slice_get xs j
get-set_other [] i j y differ = refl
get-set_other (x ∷ xs) zero zero y differ = absurd (differ refl)
get-set_other (x ∷ xs) zero (suc j) y differ = refl
get-set_other (x ∷ xs) (suc i) zero y differ = refl
get-set_other (x ∷ xs) (suc i) (suc j) y differ = get-set_other xs i j y (λ h. differ (ap suc h))

-- lists with the same element at each place are one
pub same_list : {X : Type 0} (xs ys : List X) → ((i : ℕ) → slice_get xs i ≡ slice_get ys i) → xs ≡ ys
same_list [] [] each = refl
same_list [] (y ∷ ys) each = let h : None ≡ Some y = each 0 in cc
same_list (x ∷ xs) [] each = let h : Some x ≡ None = each 0 in cc
same_list (x ∷ xs) (y ∷ ys) each =
    let first : Some x ≡ Some y = each 0 in
    let is : x ≡ y = cc in
    let rest : xs ≡ ys = same_list xs ys (λ i. each (suc i)) in
    cc

-- ---- a queue among queues

number_of : Member → ℕ
number_of member = member.number

pub queue_within : (queues : List Queue) (queue place : ℕ) → place < length (numbers_of queues queue) → queue < length queues
queue_within [] queue place lt = absurd (omega arith)
queue_within (first ∷ others) zero place lt = omega arith
queue_within (first ∷ others) (suc queue) place lt = let rest : queue < length others = queue_within others queue place lt in omega arith

pub queued_within : (queues : List Queue) (queue : ℕ) → 0 < queued_of queues queue → queue < length queues
queued_within [] queue lt = absurd (omega arith)
queued_within (first ∷ others) zero lt = omega arith
queued_within (first ∷ others) (suc queue) lt = let rest : queue < length others = queued_within others queue lt in omega arith

pub numbers_at : (queues : List Queue) (queue : ℕ) (here : Queue) → slice_get queues queue ≡ Some here → numbers_of queues queue ≡ map (λ member. member.number) here.members.items
numbers_at [] queue here at = cc
numbers_at (first ∷ others) zero here at = let is : first ≡ here = cc in ap (λ (z : Queue). map (λ (member : Member). member.number) z.members.items) is
numbers_at (first ∷ others) (suc queue) here at = numbers_at others queue here at

pub queued_at : (queues : List Queue) (queue : ℕ) (here : Queue) → slice_get queues queue ≡ Some here → queued_of queues queue ≡ here.queued
queued_at [] queue here at = cc
queued_at (first ∷ others) zero here at = let is : first ≡ here = cc in ap (λ (z : Queue). z.queued) is
queued_at (first ∷ others) (suc queue) here at = queued_at others queue here at

pub numbers-set_same : (queues : List Queue) (queue : ℕ) (new : Queue) → queue < length queues → numbers_of (set queues queue new) queue ≡ map (λ member. member.number) new.members.items
numbers-set_same queues queue new lt = numbers_at (set queues queue new) queue new (get-set_same queues queue new lt)

pub queued-set_same : (queues : List Queue) (queue : ℕ) (new : Queue) → queue < length queues → queued_of (set queues queue new) queue ≡ new.queued
queued-set_same queues queue new lt = queued_at (set queues queue new) queue new (get-set_same queues queue new lt)

pub numbers-set_other : (queues : List Queue) (queue other : ℕ) (new : Queue) → other ≢ queue → numbers_of (set queues queue new) other ≡ numbers_of queues other
numbers-set_other [] queue other new differ = refl
numbers-set_other (first ∷ others) zero zero new differ = absurd (differ refl)
numbers-set_other (first ∷ others) zero (suc other) new differ = refl
numbers-set_other (first ∷ others) (suc queue) zero new differ = refl
numbers-set_other (first ∷ others) (suc queue) (suc other) new differ = numbers-set_other others queue other new (λ h. differ (ap suc h))

pub queued-set_other : (queues : List Queue) (queue other : ℕ) (new : Queue) → other ≢ queue → queued_of (set queues queue new) other ≡ queued_of queues other
queued-set_other [] queue other new differ = refl
queued-set_other (first ∷ others) zero zero new differ = absurd (differ refl)
queued-set_other (first ∷ others) zero (suc other) new differ = refl
queued-set_other (first ∷ others) (suc queue) zero new differ = refl
queued-set_other (first ∷ others) (suc queue) (suc other) new differ = queued-set_other others queue other new (λ h. differ (ap suc h))

-- a queue that is replaced by one with the same count keeps all counts
pub queued-set_even : (queues : List Queue) (queue : ℕ) (old new : Queue) → slice_get queues queue ≡ Some old → new.queued ≡ old.queued → (other : ℕ) → queued_of (set queues queue new) other ≡ queued_of queues other
queued-set_even queues queue old new at even other =
    elim (compare_numbers other queue) [
      | equal h ↦ (let lt = slice_get_within queues queue old at in rw h (queued-set_same queues queue new lt ∙ even ∙ sym (queued_at queues queue old at)))
      | unequal h ↦ queued-set_other queues queue other new h
    ]

-- and one with the same numbers keeps all numbers
pub numbers-set_even : (queues : List Queue) (queue : ℕ) (old new : Queue) → slice_get queues queue ≡ Some old
    → map (λ member. member.number) new.members.items ≡ map (λ member. member.number) old.members.items → (other : ℕ) → numbers_of (set queues queue new) other ≡ numbers_of queues other
numbers-set_even queues queue old new at even other =
    elim (compare_numbers other queue) [
      | equal h ↦ (let lt = slice_get_within queues queue old at in rw h (numbers-set_same queues queue new lt ∙ even ∙ sym (numbers_at queues queue old at)))
      | unequal h ↦ numbers-set_other queues queue other new h
    ]

-- what is at a place of a list, as code reads it
pub read : {X : Type 0} (xs : List X) (i : ℕ) (x : X) → i < length xs → x ≡ get_or xs i x → slice_get xs i ≡ Some x
read xs i x lt is = slice_get-get_or xs i x lt ∙ ap (λ z. Some z) (sym is)

-- a place of a queue is one of its members
pub member_within : (queues : List Queue) (queue place : ℕ) (here : Queue) → queue < length queues → here ≡ get_or queues queue here → place < length (numbers_of queues queue) → place < length here.members.items
member_within queues queue place here lt is inside =
    let numbers : numbers_of queues queue ≡ map (λ (member : Member). member.number) here.members.items = numbers_at queues queue here (read queues queue here lt is) in
    let len : length (numbers_of queues queue) ≡ length here.members.items = ap (λ z. length z) numbers ∙ simp length-map in
    omega (arith, len, inside)

-- the number of a member, as code reads it
pub number_read : (queues : List Queue) (queue place : ℕ) (here : Queue) (member : Member) → queue < length queues → here ≡ get_or queues queue here → place < length (numbers_of queues queue)
    → member ≡ get_or here.members.items place member → slice_get (numbers_of queues queue) place ≡ Some member.number
number_read queues queue place here member lt is inside at =
    let within = member_within queues queue place here lt is inside in
    ap (λ z. slice_get z place) (numbers_at queues queue here (read queues queue here lt is))
    ∙ slice_get-map (λ (m : Member). m.number) here.members.items place
    ∙ ap (λ z. option_map (λ (m : Member). m.number) z) (read here.members.items place member within at)

pub members_len : (queues : List Queue) (queue : ℕ) (here : Queue) → slice_get queues queue ≡ Some here → length (numbers_of queues queue) ≡ length here.members.items
members_len queues queue here at = ap (λ z. length z) (numbers_at queues queue here at) ∙ simp length-map

-- no queue, nothing in it
pub queued_past : (queues : List Queue) (queue : ℕ) → length queues ≤ queue → queued_of queues queue ≡ 0
queued_past [] queue le = refl
queued_past (first ∷ others) zero le = absurd (omega arith)
queued_past (first ∷ others) (suc queue) le = queued_past others queue (omega arith)

-- a number that is within the count is in the queue
pub seat_queued : (queues : Queues) (queue place number : ℕ) → IsPlaced queues → place < queued_of queues.queues.items queue → slice_get (numbers_of queues.queues.items queue) place ≡ Some number
    → slice_get (seats queues) number ≡ Some (record { queue = queue; is_queued = true })
seat_queued queues queue place number placed lt stands =
    let yes : nat_lt place (queued_of queues.queues.items queue) ≡ true = grind (arith, nat_tests) in
    slice_get-map (seat_of queues.queues.items) queues.places.items number
    ∙ ap (λ z. option_map (seat_of queues.queues.items) z) (placed.found queue place number stands)
    ∙ ap (λ z. Some (record { queue = queue; is_queued = z })) yes

-- the seat of a number has its place
pub seat_place : (queues : Queues) (number : ℕ) (seat : Seat) → slice_get (seats queues) number ≡ Some seat
    → (place : Position) × (slice_get queues.places.items number ≡ Some place) × (seat ≡ seat_of queues.queues.items place)
seat_place queues number seat at = go (slice_get queues.places.items number) refl
  where
    go : (o : Option Position) → slice_get queues.places.items number ≡ o → (place : Position) × (slice_get queues.places.items number ≡ Some place) × (seat ≡ seat_of queues.queues.items place)
    go None e =
        let none : None ≡ Some seat = sym (slice_get-map (seat_of queues.queues.items) queues.places.items number ∙ ap (λ z. option_map (seat_of queues.queues.items) z) e) ∙ at in
        cc
    go (Some place) e =
        let some : Some (seat_of queues.queues.items place) ≡ Some seat =
        sym (slice_get-map (seat_of queues.queues.items) queues.places.items number ∙ ap (λ z. option_map (seat_of queues.queues.items) z) e) ∙ at in (
          place,
          e,
          cc,
        )

-- if a queue has a number in it, there is one at each place below the count
pub none_queued : (queues : Queues) (queue number : ℕ) → IsPlaced queues → queued_of queues.queues.items queue ≡ 0 → slice_get (seats queues) number ≡ Some (record { queue = queue; is_queued = true }) → ⊥
none_queued queues queue number placed none at =
    let there = seat_place queues number (record { queue = queue; is_queued = true }) at in
    let is : record { queue = queue; is_queued = true } ≡ seat_of queues.queues.items there.0 = there.2 in
    let here : queue ≡ there.0.queue = ap (λ (z : Seat). z.queue) is in
    let yes : true ≡ nat_lt there.0.place (queued_of queues.queues.items there.0.queue) = ap (λ (z : Seat). z.is_queued) is in
    let zero_there : queued_of queues.queues.items there.0.queue ≡ 0 = ap (λ z. queued_of queues.queues.items z) (sym here) ∙ none in
    grind (arith, nat_tests)

-- ---- one number

pub stands : (queues : Queues) (number : ℕ) (place : Position) → IsPlaced queues → slice_get queues.places.items number ≡ Some place → slice_get (numbers_of queues.queues.items place.queue) place.place ≡ Some number
stands queues number place placed at = placed.held number place at

pub inside : (queues : Queues) (number : ℕ) (place : Position) → IsPlaced queues → slice_get queues.places.items number ≡ Some place → place.place < length (numbers_of queues.queues.items place.queue)
inside queues number place placed at = slice_get_within (numbers_of queues.queues.items place.queue) place.place number (placed.held number place at)

pub seat_is : (queues : Queues) (number : ℕ) (seat : Seat) (place : Position) → slice_get (seats queues) number ≡ Some seat → slice_get queues.places.items number ≡ Some place → seat ≡ seat_of queues.queues.items place
seat_is queues number seat place at there =
    let some : Some (seat_of queues.queues.items place) ≡ Some seat =
    sym (slice_get-map (seat_of queues.queues.items) queues.places.items number ∙ ap (λ z. option_map (seat_of queues.queues.items) z) there) ∙ at in
    cc

-- what is at a place, written there again
pub set_kept : {X : Type 0} (xs : List X) (i : ℕ) (x : X) → slice_get xs i ≡ Some x → set xs i x ≡ xs
set_kept [] i x at = refl
set_kept (y ∷ xs) zero x at = let is : y ≡ x = cc in ap (λ z. z ∷ xs) (sym is)
set_kept (y ∷ xs) (suc i) x at = ap (λ z. y ∷ z) (set_kept xs i x at)
