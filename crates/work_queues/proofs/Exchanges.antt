-- Two members of a queue that change places.
use Rattle.std.proofs.Common.{◌≡◌, ◌≢◌, ◌<◌, ℕ, List, map, set, get_or, length, Option, Some, None, nat_lt, refl, sym, ap, ◌∙◌}
use Rattle.std.specs.Prelude.{slice_get, vec_len, ◌≤◌}
use Rattle.std.specs.Option.{option_map}
use Rattle.std.proofs.lemmas.Option.{slice_get-map, slice_get_within}
use Rattle.work_queues.specs.Queues.{Seat, numbers_of, queued_of, seat_of, seats, IsPlaced}
use Rattle.work_queues.specs.inner.Queues.{IsRearranged}
use Rattle.std.proofs.lemmas.List.{length-set, map-set}
use Rattle.work_queues.specs.declared.queues.Member.{Member}
use Rattle.work_queues.specs.declared.queues.Queue.{Queue}
use Rattle.work_queues.specs.declared.queues.Position.{Position}
use Rattle.work_queues.specs.declared.queues.Queues.{Queues}
use Rattle.work_queues.proofs.QueueLaws.{Compared, equal, unequal, compare_numbers, same_list, get-set_same, get-set_other, queue_within, numbers_at, read, member_within, number_read, numbers-set_same, numbers-set_other, queued-set_even}

-- what a change of two places leaves
pub record IsExchanged (old new : Queues) (queue a b first second : ℕ) : Type 0 where
  pub first_was : slice_get (numbers_of old.queues.items queue) a ≡ Some first
  pub second_was : slice_get (numbers_of old.queues.items queue) b ≡ Some second
  pub first_is : slice_get (numbers_of new.queues.items queue) b ≡ Some first
  pub second_is : slice_get (numbers_of new.queues.items queue) a ≡ Some second
  pub members : (place : ℕ) → place ≢ a → place ≢ b → slice_get (numbers_of new.queues.items queue) place ≡ slice_get (numbers_of old.queues.items queue) place
  pub queues : (other : ℕ) → other ≢ queue → numbers_of new.queues.items other ≡ numbers_of old.queues.items other
  pub len : length (numbers_of new.queues.items queue) ≡ length (numbers_of old.queues.items queue)
  pub queued : (other : ℕ) → queued_of new.queues.items other ≡ queued_of old.queues.items other
  pub first_at : slice_get new.places.items first ≡ Some (record { queue = queue; place = b })
  pub second_at : slice_get new.places.items second ≡ Some (record { queue = queue; place = a })
  pub places : (number : ℕ) → number ≢ first → number ≢ second → slice_get new.places.items number ≡ slice_get old.places.items number

abbrev at : ℕ → ℕ → Position
at queue place = record { queue = queue; place = place }

-- ---- where the numbers are

-- a number that was elsewhere is none of the two
none_of : (old : Queues) (queue a number here place : ℕ) → IsPlaced old → slice_get (numbers_of old.queues.items queue) a ≡ Some number
    → (other : ℕ) → slice_get (numbers_of old.queues.items here) place ≡ Some other → (here ≡ queue → place ≢ a) → other ≢ number
none_of old queue a number here place placed was other there differ is =
    let one : slice_get old.places.items number ≡ Some (at queue a) = placed.found queue a number was in
    let two : slice_get old.places.items other ≡ Some (at here place) = placed.found here place other there in
    let same_place : at here place ≡ at queue a = cc in
    differ (ap (λ (z : Position). z.queue) same_place) (ap (λ (z : Position). z.place) same_place)

pub found : (old new : Queues) (queue a b first second : ℕ) → IsPlaced old → IsExchanged old new queue a b first second → (here place number : ℕ)
    → slice_get (numbers_of new.queues.items here) place ≡ Some number → slice_get new.places.items number ≡ Some (record { queue = here; place = place })
found old new queue a b first second placed is here place number there = elim (compare_numbers here queue) [ equal q ↦ inside q | unequal q ↦ elsewhere q ]
  where
    stays : (here ≡ queue → place ≢ a) → (here ≡ queue → place ≢ b) → slice_get (numbers_of old.queues.items here) place ≡ Some number
        → slice_get new.places.items number ≡ Some (at here place)
    stays not_a not_b was =
        is.places number (none_of old queue a first here place placed is.first_was number was not_a) (none_of old queue b second here place placed is.second_was number was not_b)
        ∙ placed.found here place number was

    elsewhere : here ≢ queue → slice_get new.places.items number ≡ Some (at here place)
    elsewhere q = stays (λ h. absurd (q h)) (λ h. absurd (q h)) (ap (λ z. slice_get z place) (sym (is.queues here q)) ∙ there)

    at_b : here ≡ queue → place ≡ b → slice_get new.places.items number ≡ Some (at here place)
    at_b q k =
        let first_there : slice_get (numbers_of new.queues.items here) place ≡ Some first = rw (q, k) is.first_is in
        let one : number ≡ first = cc in
        rw (q, k, one) is.first_at

    at_a : here ≡ queue → place ≡ a → slice_get new.places.items number ≡ Some (at here place)
    at_a q k =
        let second_there : slice_get (numbers_of new.queues.items here) place ≡ Some second = rw (q, k) is.second_is in
        let one : number ≡ second = cc in
        rw (q, k, one) is.second_at

    inside : here ≡ queue → slice_get new.places.items number ≡ Some (at here place)
    inside q =
        elim (compare_numbers place b) [
          | equal k ↦ at_b q k
          | unequal k ↦ elim (compare_numbers place a) [
            | equal l ↦ at_a q l
            | unequal l ↦ stays (λ h. l) (λ h. k) (rw q (sym (is.members place l k)) ∙ there)
          ]
        ]

pub held : (old new : Queues) (queue a b first second : ℕ) → IsPlaced old → IsExchanged old new queue a b first second → (number : ℕ) (place : Position)
    → slice_get new.places.items number ≡ Some place → slice_get (numbers_of new.queues.items place.queue) place.place ≡ Some number
held old new queue a b first second placed is number place there =
    elim (compare_numbers number first) [
      | equal h ↦
          (let one : Some place ≡ Some (at queue b) = sym there ∙ ap (λ z. slice_get new.places.items z) h ∙ is.first_at in
          let two : place ≡ at queue b = cc in
          rw (two, h) is.first_is)
      | unequal h ↦ elim (compare_numbers number second) [
        | equal k ↦
            (let one : Some place ≡ Some (at queue a) = sym there ∙ ap (λ z. slice_get new.places.items z) k ∙ is.second_at in
            let two : place ≡ at queue a = cc in
            rw (two, k) is.second_is)
        | unequal k ↦ stays h k
      ]
    ]
  where
    stays : number ≢ first → number ≢ second → slice_get (numbers_of new.queues.items place.queue) place.place ≡ Some number
    stays h k =
        let was : slice_get old.places.items number ≡ Some place = sym (is.places number h k) ∙ there in
        let held_was : slice_get (numbers_of old.queues.items place.queue) place.place ≡ Some number = placed.held number place was in
        elim (compare_numbers place.queue queue) [
          | equal q ↦
              (let in_queue : slice_get (numbers_of old.queues.items queue) place.place ≡ Some number = rw (← q) held_was in
              let not_a : place.place ≢ a = λ l. h (let e : slice_get (numbers_of old.queues.items queue) place.place ≡ Some first = rw l is.first_was in cc) in
              let not_b : place.place ≢ b = λ l. k (let e : slice_get (numbers_of old.queues.items queue) place.place ≡ Some second = rw l is.second_was in cc) in
              rw q (is.members place.place not_a not_b ∙ in_queue))
          | unequal q ↦ ap (λ z. slice_get z place.place) (is.queues place.queue q) ∙ held_was
        ]

-- ---- seats

pub seats_same : (old new : Queues) (queue a b first second : ℕ) → IsPlaced old → IsExchanged old new queue a b first second
    → nat_lt a (queued_of old.queues.items queue) ≡ nat_lt b (queued_of old.queues.items queue) → seats new ≡ seats old
seats_same old new queue a b first second placed is side = same_list (seats new) (seats old) each
  where
    now : Position → Seat
    now = seat_of new.queues.items

    was : Position → Seat
    was = seat_of old.queues.items

    even : (place : Position) → seat_of new.queues.items place ≡ seat_of old.queues.items place
    even place = ap (λ z. record { queue = place.queue; is_queued = nat_lt place.place z }) (is.queued place.queue)

    seat_at : (number : ℕ) (p q : Position) → slice_get new.places.items number ≡ Some p → slice_get old.places.items number ≡ Some q → seat_of new.queues.items p ≡ seat_of old.queues.items q
        → slice_get (seats new) number ≡ slice_get (seats old) number
    seat_at number p q new_at old_at e =
        slice_get-map (seat_of new.queues.items) new.places.items number
        ∙ ap (λ z. option_map (seat_of new.queues.items) z) new_at
        ∙ ap (λ z. Some z) e
        ∙ sym (slice_get-map (seat_of old.queues.items) old.places.items number ∙ ap (λ z. option_map (seat_of old.queues.items) z) old_at)

    alike : (number : ℕ) → number ≢ first → number ≢ second → slice_get (seats new) number ≡ slice_get (seats old) number
    alike number h k =
        slice_get-map (seat_of new.queues.items) new.places.items number
        ∙ ap (λ z. option_map (seat_of new.queues.items) z) (is.places number h k)
        ∙ maps (slice_get old.places.items number)
        ∙ sym (slice_get-map (seat_of old.queues.items) old.places.items number)
      where
        maps : (o : Option Position) → option_map (seat_of new.queues.items) o ≡ option_map (seat_of old.queues.items) o
        maps None = refl
        maps (Some p) = ap (λ z. Some z) (even p)

    each : (number : ℕ) → slice_get (seats new) number ≡ slice_get (seats old) number
    each number =
        elim (compare_numbers number first) [
          | equal h ↦ rw h (
              seat_at first (at queue b) (at queue a) is.first_at (placed.found queue a first is.first_was)
              (even (at queue b) ∙ ap (λ z. record { queue = queue; is_queued = z }) (sym side)))
          | unequal h ↦ elim (compare_numbers number second) [
            | equal k ↦ rw k (
                seat_at second (at queue a) (at queue b) is.second_at (placed.found queue b second is.second_was)
                (even (at queue a) ∙ ap (λ z. record { queue = queue; is_queued = z }) side))
            | unequal k ↦ alike number h k
          ]
        ]

-- an exchange on one side rearranges
pub exchanged : (old new : Queues) (queue a b first second : ℕ) → IsPlaced old → IsExchanged old new queue a b first second
    → nat_lt a (queued_of old.queues.items queue) ≡ nat_lt b (queued_of old.queues.items queue)
    → vec_len new.queues ≡ vec_len old.queues → vec_len new.places ≡ vec_len old.places → IsRearranged old new
exchanged old new queue a b first second placed is side queues places =
    record {
      placed = record { found = found old new queue a b first second placed is; held = held old new queue a b first second placed is; within = inside };
      seats = seats_same old new queue a b first second placed is side;
      queued = is.queued;
      len = lens;
      queues = queues;
      places = places;
    }
  where
    lens : (here : ℕ) → length (numbers_of new.queues.items here) ≡ length (numbers_of old.queues.items here)
    lens here = elim (compare_numbers here queue) [ equal q ↦ rw q is.len | unequal q ↦ ap (λ z. length z) (is.queues here q) ]

    inside : (here : ℕ) → queued_of new.queues.items here ≤ length (numbers_of new.queues.items here)
    inside here = rw (is.queued here, lens here) (placed.within here)

-- what the code of an exchange leaves
pub exchange_leaves : (old new : Queues) (queue a b : ℕ) (here there : Queue) (first second : Member) → IsPlaced old
    → here ≡ get_or old.queues.items queue here → a < length (numbers_of old.queues.items queue) → b < length (numbers_of old.queues.items queue)
    → first ≡ get_or here.members.items a first → second ≡ get_or here.members.items b second
    → new.queues.items ≡ set old.queues.items queue there → there.members.items ≡ set (set here.members.items a second) b first → there.queued ≡ here.queued
    → new.places.items ≡ set (set old.places.items first.number (record { queue = queue; place = b })) second.number (record { queue = queue; place = a })
    → IsExchanged old new queue a b first.number second.number
exchange_leaves old new queue a b here there first second placed is in_a in_b first_is second_is queues members queued places =
    record {
      first_was = first_was;
      second_was = second_was;
      first_is = ap (λ z. slice_get z b) numbers ∙ get-set_same (set was a second.number) b first.number (rw length-set (rw (← was_numbers) in_b));
      second_is = ap (λ z. slice_get z a) numbers ∙ second_now (compare_numbers a b);
      members = λ place not_a not_b.
          ap (λ z. slice_get z place) numbers
          ∙ get-set_other (set was a second.number) b place first.number not_b
          ∙ get-set_other was a place second.number not_a
          ∙ ap (λ z. slice_get z place) (sym was_numbers);
      queues = λ elsewhere differ. ap (λ z. numbers_of z elsewhere) queues ∙ numbers-set_other old.queues.items queue elsewhere there differ;
      len = ap (λ z. length z) numbers ∙ simp length-set (ap (λ z. length z) (sym was_numbers));
      queued = λ elsewhere. ap (λ z. queued_of z elsewhere) queues ∙ queued-set_even old.queues.items queue here there at_queue queued elsewhere;
      first_at = ap (λ z. slice_get z first.number) places ∙ first_now (compare_numbers first.number second.number);
      second_at = ap (λ z. slice_get z second.number) places
          ∙ get-set_same (set old.places.items first.number (at queue b)) second.number (at queue a) (rw length-set (slice_get_within old.places.items second.number (at queue b) (placed.found queue b second.number second_was)));
      places = λ number not_first not_second.
          ap (λ z. slice_get z number) places
          ∙ get-set_other (set old.places.items first.number (at queue b)) second.number number (at queue a) not_second
          ∙ get-set_other old.places.items first.number number (at queue b) not_first;
    }
  where
    lt : queue < length old.queues.items
    lt = queue_within old.queues.items queue a in_a

    at_queue : slice_get old.queues.items queue ≡ Some here
    at_queue = read old.queues.items queue here lt is

    was : List ℕ
    was = map (λ (m : Member). m.number) here.members.items

    was_numbers : numbers_of old.queues.items queue ≡ map (λ (m : Member). m.number) here.members.items
    was_numbers = numbers_at old.queues.items queue here at_queue

    first_was : slice_get (numbers_of old.queues.items queue) a ≡ Some first.number
    first_was = number_read old.queues.items queue a here first lt is in_a first_is

    second_was : slice_get (numbers_of old.queues.items queue) b ≡ Some second.number
    second_was = number_read old.queues.items queue b here second lt is in_b second_is

    numbers : numbers_of new.queues.items queue ≡ set (set (map (λ (m : Member). m.number) here.members.items) a second.number) b first.number
    numbers =
        ap (λ z. numbers_of z queue) queues
        ∙ numbers-set_same old.queues.items queue there lt
        ∙ ap (λ z. map (λ (m : Member). m.number) z) members
        ∙ map-set (λ (m : Member). m.number) (set here.members.items a second) b first
        ∙ ap (λ z. set z b first.number) (map-set (λ (m : Member). m.number) here.members.items a second)

    second_now : Compared a b → slice_get (set (set (map (λ (m : Member). m.number) here.members.items) a second.number) b first.number) a ≡ Some second.number
    second_now (equal h) =
        let one : Some first.number ≡ Some second.number = sym first_was ∙ ap (λ z. slice_get (numbers_of old.queues.items queue) z) h ∙ second_was in
        let two : first.number ≡ second.number = cc in
        rw (two, h) (get-set_same (set (map (λ (m : Member). m.number) here.members.items) b second.number) b second.number (rw length-set (rw (← was_numbers) in_b)))
    second_now (unequal h) =
        get-set_other (set (map (λ (m : Member). m.number) here.members.items) a second.number) b a first.number h
        ∙ get-set_same (map (λ (m : Member). m.number) here.members.items) a second.number (rw (← was_numbers) in_a)

    first_now : Compared first.number second.number
        → slice_get (set (set old.places.items first.number (at queue b)) second.number (at queue a)) first.number ≡ Some (at queue b)
    first_now (equal h) =
        let one : Some (at queue a) ≡ Some (at queue b) = sym (placed.found queue a first.number first_was) ∙ ap (λ z. slice_get old.places.items z) h ∙ placed.found queue b second.number second_was in
        let two : at queue a ≡ at queue b = cc in
        rw (two, h) (get-set_same (set old.places.items second.number (at queue b)) second.number (at queue b) (rw length-set (slice_get_within old.places.items second.number (at queue b) (placed.found queue b second.number second_was))))
    first_now (unequal h) =
        get-set_other (set old.places.items first.number (at queue b)) second.number first.number (at queue a) h
        ∙ get-set_same old.places.items first.number (at queue b) (slice_get_within old.places.items first.number (at queue a) (placed.found queue a first.number first_was))

-- the first of the two then is at the place of the second
pub exchange_moves : (queues : List Queue) (queue a b : ℕ) (here there : Queue) (first second : Member) → queue < length queues → here ≡ get_or queues queue here
    → a < length (numbers_of queues queue) → b < length (numbers_of queues queue) → first ≡ get_or here.members.items a first
    → there.members.items ≡ set (set here.members.items a second) b first
    → slice_get (numbers_of (set queues queue there) queue) b ≡ slice_get (numbers_of queues queue) a
exchange_moves queues queue a b here there first second lt is in_a in_b first_is members =
    let inside : b < length here.members.items = member_within queues queue b here lt is in_b in
    ap (λ z. slice_get z b) (numbers-set_same queues queue there lt)
    ∙ slice_get-map (λ (m : Member). m.number) there.members.items b
    ∙ ap (λ z. option_map (λ (m : Member). m.number) (slice_get z b)) members
    ∙ ap (λ z. option_map (λ (m : Member). m.number) z) (get-set_same (set here.members.items a second) b first (rw length-set inside))
    ∙ sym (number_read queues queue a here first lt is in_a first_is)
