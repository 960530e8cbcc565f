-- A queue whose members stay where they are, while more or fewer of them are in it.
use Rattle.std.proofs.Common.{◌≡◌, ◌≢◌, ◌<◌, ◌≤◌, ◌+◌, ◌-◌, ℕ, true, false, map, set, length, Option, Some, None, nat_lt, refl, sym, ap, ◌∙◌, arith}
use Rattle.std.specs.Prelude.{slice_get, vec_len}
use Rattle.std.specs.Option.{option_map}
use Rattle.std.specs.Vec.{with_item}
use Rattle.std.proofs.lemmas.Bool.Decides.{nat_tests}
use Rattle.std.proofs.lemmas.Option.{slice_get-map, slice_get_within}
use Rattle.work_queues.specs.Queues.{numbers_of, queued_of, seat_of, seats, IsPlaced}
use Rattle.work_queues.specs.inner.Queues.{IsRearranged}
use Rattle.work_queues.specs.declared.queues.Queue.{Queue}
use Rattle.work_queues.specs.declared.queues.Position.{Position}
use Rattle.work_queues.specs.declared.queues.Queues.{Queues}
use Rattle.work_queues.proofs.QueueLaws.{equal, unequal, compare_numbers, same_list, get-set_same, get-set_other, numbers-set_even, queued-set_even, queued-set_same, queued-set_other, queued_at}

-- ---- nothing but labels changes

pub unchanged : (queues : Queues) → IsPlaced queues → IsRearranged queues queues
unchanged queues placed = record { placed = placed; seats = refl; queued = λ queue. refl; len = λ queue. refl; queues = refl; places = refl }

pub rearranged_twice : (one two three : Queues) → IsRearranged one two → IsRearranged two three → IsRearranged one three
rearranged_twice one two three first second =
    record {
      placed = second.placed;
      seats = second.seats ∙ first.seats;
      queued = λ queue. second.queued queue ∙ first.queued queue;
      len = λ queue. second.len queue ∙ first.len queue;
      queues = second.queues ∙ first.queues;
      places = second.places ∙ first.places;
    }

-- the same numbers at the same places
still_placed : (old new : Queues) → IsPlaced old → ((queue : ℕ) → numbers_of new.queues.items queue ≡ numbers_of old.queues.items queue) → new.places.items ≡ old.places.items
    → ((queue : ℕ) → queued_of new.queues.items queue ≤ length (numbers_of new.queues.items queue)) → IsPlaced new
still_placed old new placed numbers places within =
    record {
      found = λ queue place number there. ap (λ z. slice_get z number) places ∙ placed.found queue place number (ap (λ z. slice_get z place) (sym (numbers queue)) ∙ there);
      held = λ number place there.
          ap (λ z. slice_get z place.place) (numbers place.queue) ∙ placed.held number place (ap (λ z. slice_get z number) (sym places) ∙ there);
      within = within;
    }

-- queues with the same numbers and counts are seen alike
pub alike : (old new : Queues) → IsPlaced old → ((queue : ℕ) → numbers_of new.queues.items queue ≡ numbers_of old.queues.items queue)
    → ((queue : ℕ) → queued_of new.queues.items queue ≡ queued_of old.queues.items queue) → new.places.items ≡ old.places.items → IsPlaced new × (seats new ≡ seats old)
alike old new placed numbers queued places = (
  still_placed old new placed numbers places (λ queue. rw (queued queue, numbers queue) (placed.within queue)),
  ap (λ z. map (seat_of new.queues.items) z) places ∙ same_list (map (seat_of new.queues.items) old.places.items) (map (seat_of old.queues.items) old.places.items) each,
)
  where
    maps : (o : Option Position) → option_map (seat_of new.queues.items) o ≡ option_map (seat_of old.queues.items) o
    maps None = refl
    maps (Some p) = ap (λ z. Some (record { queue = p.queue; is_queued = nat_lt p.place z })) (queued p.queue)

    each : (number : ℕ) → slice_get (map (seat_of new.queues.items) old.places.items) number ≡ slice_get (map (seat_of old.queues.items) old.places.items) number
    each number =
        slice_get-map (seat_of new.queues.items) old.places.items number ∙ maps (slice_get old.places.items number) ∙ sym (slice_get-map (seat_of old.queues.items) old.places.items number)

pub relabelled : (old new : Queues) (queue : ℕ) (here there : Queue) → IsPlaced old → slice_get old.queues.items queue ≡ Some here → new.queues.items ≡ set old.queues.items queue there
    → map (λ member. member.number) there.members.items ≡ map (λ member. member.number) here.members.items → there.queued ≡ here.queued → new.places.items ≡ old.places.items
    → vec_len new.places ≡ vec_len old.places → vec_len new.queues ≡ vec_len old.queues → IsRearranged old new
relabelled old new queue here there placed at queues numbers queued places places_count count =
    let both = alike old new placed same_numbers same_queued places in
    record { placed = both.0; seats = both.1; queued = same_queued; len = λ other. ap (λ z. length z) (same_numbers other); queues = count; places = places_count }
  where
    same_numbers : (other : ℕ) → numbers_of new.queues.items other ≡ numbers_of old.queues.items other
    same_numbers other = ap (λ z. numbers_of z other) queues ∙ numbers-set_even old.queues.items queue here there at numbers other

    same_queued : (other : ℕ) → queued_of new.queues.items other ≡ queued_of old.queues.items other
    same_queued other = ap (λ z. queued_of z other) queues ∙ queued-set_even old.queues.items queue here there at queued other

-- ---- the boundary moves over one place

-- the new count says the same of each place but this one
abbrev pub IsMoved : ℕ → ℕ → ℕ → Type 0
IsMoved boundary was now = (place : ℕ) → place ≢ boundary → nat_lt place now ≡ nat_lt place was

pub one_more : (queued : ℕ) → IsMoved queued queued (queued + 1)
one_more queued place differ = grind (arith, nat_tests)

pub one_less : (queued less : ℕ) → less + 1 ≡ queued → IsMoved less queued less
one_less queued less is place differ = grind (arith, nat_tests)

pub within_more : (place : ℕ) → nat_lt place (place + 1) ≡ true
within_more place = grind (arith, nat_tests)

pub not_within : (place : ℕ) → nat_lt place place ≡ false
not_within place = grind (arith, nat_tests)

pub resized : (old new : Queues) (queue boundary : ℕ) (here there : Queue) → IsPlaced old → slice_get old.queues.items queue ≡ Some here → new.queues.items ≡ set old.queues.items queue there
    → map (λ member. member.number) there.members.items ≡ map (λ member. member.number) here.members.items → there.queued ≤ length (numbers_of old.queues.items queue)
    → IsMoved boundary here.queued there.queued → new.places.items ≡ old.places.items
    → IsPlaced new × ((number : ℕ) → slice_get (numbers_of old.queues.items queue) boundary ≡ Some number
    → seats new ≡ set (seats old) number (record { queue = queue; is_queued = nat_lt boundary there.queued }))
resized old new queue boundary here there placed at queues numbers few moved places = (
  still_placed old new placed same_numbers places inside,
  λ number stands. same_list (seats new) (set (seats old) number (record { queue = queue; is_queued = nat_lt boundary there.queued })) (each number stands),
)
  where
    lt : queue < length old.queues.items
    lt = slice_get_within old.queues.items queue here at

    same_numbers : (other : ℕ) → numbers_of new.queues.items other ≡ numbers_of old.queues.items other
    same_numbers other = ap (λ z. numbers_of z other) queues ∙ numbers-set_even old.queues.items queue here there at numbers other

    queued_here : queued_of new.queues.items queue ≡ there.queued
    queued_here = ap (λ z. queued_of z queue) queues ∙ queued-set_same old.queues.items queue there lt

    queued_there : (other : ℕ) → other ≢ queue → queued_of new.queues.items other ≡ queued_of old.queues.items other
    queued_there other differ = ap (λ z. queued_of z other) queues ∙ queued-set_other old.queues.items queue other there differ

    inside : (other : ℕ) → queued_of new.queues.items other ≤ length (numbers_of new.queues.items other)
    inside other =
        elim (compare_numbers other queue) [
          | equal h ↦ rw (same_numbers other, h, queued_here) few
          | unequal h ↦ rw (same_numbers other, queued_there other h) (placed.within other)
        ]

    seat_new : (number : ℕ) (place : Position) → slice_get old.places.items number ≡ Some place → slice_get (seats new) number ≡ Some (seat_of new.queues.items place)
    seat_new number place there_at =
        slice_get-map (seat_of new.queues.items) new.places.items number
        ∙ ap (λ z. option_map (seat_of new.queues.items) z) (ap (λ z. slice_get z number) places ∙ there_at)

    seat_old : (number : ℕ) (place : Position) → slice_get old.places.items number ≡ Some place → slice_get (seats old) number ≡ Some (seat_of old.queues.items place)
    seat_old number place there_at = slice_get-map (seat_of old.queues.items) old.places.items number ∙ ap (λ z. option_map (seat_of old.queues.items) z) there_at

    queued_was : queued_of old.queues.items queue ≡ here.queued
    queued_was = queued_at old.queues.items queue here at

    even : (number other : ℕ) (place : Position) → slice_get (numbers_of old.queues.items queue) boundary ≡ Some number → other ≢ number → slice_get old.places.items other ≡ Some place
        → seat_of new.queues.items place ≡ seat_of old.queues.items place
    even number other place stands differ there_at =
        elim (compare_numbers place.queue queue) [
          | equal h ↦
              (let held : slice_get (numbers_of old.queues.items place.queue) place.place ≡ Some other = placed.held other place there_at in
              let apart : place.place ≢ boundary = λ k. differ (let e : slice_get (numbers_of old.queues.items place.queue) place.place ≡ Some number = rw (h, k) stands in cc) in
              ap (λ z. record { queue = place.queue; is_queued = z })
              (ap (λ z. nat_lt place.place (queued_of new.queues.items z)) h
              ∙ ap (λ z. nat_lt place.place z) queued_here
              ∙ moved place.place apart
              ∙ ap (λ z. nat_lt place.place z) (sym queued_was)
              ∙ ap (λ z. nat_lt place.place (queued_of old.queues.items z)) (sym h)))
          | unequal h ↦ ap (λ z. record { queue = place.queue; is_queued = nat_lt place.place z }) (queued_there place.queue h)
        ]

    unmoved : (number other : ℕ) → slice_get (numbers_of old.queues.items queue) boundary ≡ Some number → other ≢ number → slice_get (seats new) other ≡ slice_get (seats old) other
    unmoved number other stands differ = go (slice_get old.places.items other) refl
      where
        go : (o : Option Position) → slice_get old.places.items other ≡ o → slice_get (seats new) other ≡ slice_get (seats old) other
        go None e =
            slice_get-map (seat_of new.queues.items) new.places.items other
            ∙ ap (λ z. option_map (seat_of new.queues.items) z) (ap (λ z. slice_get z other) places ∙ e)
            ∙ sym (slice_get-map (seat_of old.queues.items) old.places.items other ∙ ap (λ z. option_map (seat_of old.queues.items) z) e)
        go (Some place) e = seat_new other place e ∙ ap (λ z. Some z) (even number other place stands differ e) ∙ sym (seat_old other place e)

    each : (number : ℕ) → slice_get (numbers_of old.queues.items queue) boundary ≡ Some number → (other : ℕ)
        → slice_get (seats new) other ≡ slice_get (set (seats old) number (record { queue = queue; is_queued = nat_lt boundary there.queued })) other
    each number stands other =
        elim (compare_numbers other number) [
          | equal h ↦
              (let there_at : slice_get old.places.items number ≡ Some (record { queue = queue; place = boundary }) = placed.found queue boundary number stands in
              let few_seats : number < length (seats old) = slice_get_within (seats old) number _ (seat_old number _ there_at) in
              rw h (
              seat_new number _ there_at
              ∙ ap (λ z. Some (record { queue = queue; is_queued = nat_lt boundary z })) queued_here
              ∙ sym (get-set_same (seats old) number (record { queue = queue; is_queued = nat_lt boundary there.queued }) few_seats)))
          | unequal h ↦ unmoved number other stands h ∙ sym (get-set_other (seats old) number other (record { queue = queue; is_queued = nat_lt boundary there.queued }) h)
        ]

-- the queues with another queue in its place
abbrev pub with_queue : Queues → ℕ → Queue → Queues
with_queue old queue there = record { queues = with_item old.queues queue there; places = old.places }

pub admitted : (old : Queues) (queue : ℕ) (here : Queue) → IsPlaced old → slice_get old.queues.items queue ≡ Some here → here.queued < length (numbers_of old.queues.items queue)
    → IsPlaced (with_queue old queue (record { members = here.members; queued = here.queued + 1 }))
    × ((number : ℕ) → slice_get (numbers_of old.queues.items queue) (queued_of old.queues.items queue) ≡ Some number
    → seats (with_queue old queue (record { members = here.members; queued = here.queued + 1 })) ≡ set (seats old) number (record { queue = queue; is_queued = true }))
admitted old queue here placed at few =
    let both = resized old (with_queue old queue (record { members = here.members; queued = here.queued + 1 })) queue here.queued here
    (record { members = here.members; queued = here.queued + 1 }) placed at refl refl (omega arith) (one_more here.queued) refl in (
      both.0,
      λ number stands.
          both.1 number (ap (λ z. slice_get (numbers_of old.queues.items queue) z) (sym (queued_at old.queues.items queue here at)) ∙ stands)
          ∙ ap (λ z. set (seats old) number (record { queue = queue; is_queued = z })) (within_more here.queued),
    )

pub dismissed : (old : Queues) (queue : ℕ) (here : Queue) → IsPlaced old → slice_get old.queues.items queue ≡ Some here → 0 < here.queued
    → IsPlaced (with_queue old queue (record { members = here.members; queued = here.queued - 1 }))
    × ((number : ℕ) → slice_get (numbers_of old.queues.items queue) (queued_of old.queues.items queue - 1) ≡ Some number
    → seats (with_queue old queue (record { members = here.members; queued = here.queued - 1 })) ≡ set (seats old) number (record { queue = queue; is_queued = false }))
dismissed old queue here placed at some =
    let within = placed.within queue in
    let queued : queued_of old.queues.items queue ≡ here.queued = queued_at old.queues.items queue here at in
    let both = resized old (with_queue old queue (record { members = here.members; queued = here.queued - 1 })) queue (here.queued - 1) here
    (record { members = here.members; queued = here.queued - 1 }) placed at refl refl (omega (arith, within, queued)) (one_less here.queued (here.queued - 1) (omega arith)) refl in (
      both.0,
      λ number stands.
          both.1 number (ap (λ z. slice_get (numbers_of old.queues.items queue) (z - 1)) (sym queued) ∙ stands)
          ∙ ap (λ z. set (seats old) number (record { queue = queue; is_queued = z })) (not_within (here.queued - 1)),
    )
