-- What the lists of an agenda say of a number.
use Rattle.std.proofs.Common.{◌≡◌, ◌≢◌, ◌<◌, ◌≤◌, ◌+◌, ◌==◌, ℕ, zero, suc, Bool, true, false, ◌&&◌, List, [], ◌∷◌, ◌++◌, map, set, get_or, take, length, Option, Some, None, nat_lt, inl, inr, refl, sym, ap, ◌∙◌, subst, arith}
use Rattle.std.specs.Prelude.{slice_get, count_by, Contains, IfNone}
use Rattle.std.specs.Str.{bytes_eq}
use Rattle.std.proofs.lemmas.Bool.Decides.{nat_tests, eqb_tells}
use Rattle.std.proofs.lemmas.Bool.{eq-eqb}
use Rattle.std.proofs.lemmas.Slice.Eq.{bytes_eq-Decides}
use Rattle.std.proofs.lemmas.Option.{slice_get_within, get_or_from_slice_get}
use Rattle.std.proofs.lemmas.List.Sums.{sum_by-cons, sum_by-set, sum_by_push, get_or-le-sum_by, count_by-le-length}
use Rattle.address.specs.Address.{OriginText}
use Rattle.work_queues.specs.Queues.{Seat, seats, numbers_of, queued_of}
use Rattle.work_queues.specs.Tasks.{Item, is_out, out_count}
use Rattle.work_queues.specs.Lists.{key_at, item_of, items_of, origins_in, origin_seat, origin_out, IsSeated, AreListsKept}
use Rattle.work_queues.specs.inner.Lists.{one}
use Rattle.work_queues.specs.declared.lists.Job.{Job}
use Rattle.work_queues.specs.declared.lists.Lists.{Lists}
use Rattle.work_queues.specs.declared.pool.Pool.{Pool}
use Rattle.work_queues.proofs.QueueLaws.{none_queued, seat_place}

-- ---- what is at a place of a mapped list

pub mapped : {A B : Type 0} (f : A → B) (xs : List A) (i : ℕ) (x : A) → slice_get xs i ≡ Some x → slice_get (map f xs) i ≡ Some (f x)
mapped f [] i x at = cc
mapped f (y ∷ xs) zero x at = let is : y ≡ x = cc in ap (λ z. Some (f z)) is
mapped f (y ∷ xs) (suc i) x at = mapped f xs i x at

pub unmapped : {A B : Type 0} (f : A → B) (xs : List A) (i : ℕ) (y : B) → slice_get (map f xs) i ≡ Some y → (x : A) × (slice_get xs i ≡ Some x) × (y ≡ f x)
unmapped f [] i y at = cc
unmapped f (x ∷ xs) zero y at = (x, refl, cc)
unmapped f (x ∷ xs) (suc i) y at = unmapped f xs i y at

pub taken : {A : Type 0} (xs : List A) (n i : ℕ) → i < n → slice_get (take n xs) i ≡ slice_get xs i
taken [] zero i lt = absurd (omega arith)
taken [] (suc n) i lt = refl
taken (x ∷ xs) zero i lt = absurd (omega arith)
taken (x ∷ xs) (suc n) zero lt = refl
taken (x ∷ xs) (suc n) (suc i) lt = taken xs n i (omega arith)

pub contained : (xs : List OriginText) (i : ℕ) (x : OriginText) → slice_get xs i ≡ Some x → Contains xs x
contained xs i x at = (i, slice_get_within xs i x at, get_or_from_slice_get xs i x x at)

-- ---- jobs and items

pub job_of : (lists : Lists) (number : ℕ) (item : Item) → slice_get (items_of lists) number ≡ Some item
    → (job : Job) × (slice_get lists.jobs.items number ≡ Some job) × (item ≡ item_of lists.origins.entries job)
job_of lists number item at = unmapped (item_of lists.origins.entries) lists.jobs.items number item at

pub item_at : (lists : Lists) (number : ℕ) (job : Job) → slice_get lists.jobs.items number ≡ Some job → slice_get (items_of lists) number ≡ Some (item_of lists.origins.entries job)
item_at lists number job at = mapped (item_of lists.origins.entries) lists.jobs.items number job at

-- ---- the counts

one-cons : (test : Job → Bool) (job : Job) (jobs : List Job) → count_by test (job ∷ jobs) ≡ one (test job) + count_by test jobs
one-cons test job jobs = sum_by-cons (λ (j : Job). one (test j)) job jobs

out-cons : (origin : OriginText) (item : Item) (items : List Item) → out_count (item ∷ items) origin ≡ one (is_out item.task && bytes_eq item.origin origin) + out_count items origin
out-cons origin item items = sum_by-cons (λ (i : Item). one (is_out i.task && bytes_eq i.origin origin)) item items

same_origin : (origins : List (OriginText × ℕ)) (a b : ℕ) → (key_at origins a ≡ key_at origins b → a ≡ b) → bytes_eq (key_at origins a) (key_at origins b) ≡ (a == b)
same_origin origins a b distinct =
    elim (eqb_tells a b) [
      | inl h ↦ (let yes : bytes_eq (key_at origins a) (key_at origins b) ≡ true = (bytes_eq-Decides (key_at origins a) (key_at origins b)).1 (ap (λ z. key_at origins z) h.1) in yes ∙ sym h.0)
      | inr h ↦ go h.0 h.1 (bytes_eq (key_at origins a) (key_at origins b)) refl
    ]
  where
    go : (a == b) ≡ false → a ≢ b → (t : Bool) → bytes_eq (key_at origins a) (key_at origins b) ≡ t → bytes_eq (key_at origins a) (key_at origins b) ≡ (a == b)
    go unlike differ true e = absurd (differ (distinct ((bytes_eq-Decides (key_at origins a) (key_at origins b)).0 e)))
    go unlike differ false e = e ∙ sym unlike

-- the permits of an origin's text are those of the origin
pub out_is : (origins : List (OriginText × ℕ)) (origin : ℕ) → origin < length origins → ((a b : ℕ) → a < length origins → b < length origins → key_at origins a ≡ key_at origins b → a ≡ b)
    → (jobs : List Job) → ((number : ℕ) (job : Job) → slice_get jobs number ≡ Some job → job.origin < length origins) → out_count (map (item_of origins) jobs) (key_at origins origin) ≡ origin_out jobs origin
out_is origins origin lt distinct [] within = refl
out_is origins origin lt distinct (job ∷ jobs) within =
    let rest = out_is origins origin lt distinct jobs (λ number j at. within (suc number) j at) in
    let same = same_origin origins job.origin origin (distinct job.origin origin (within 0 job refl) lt) in
    let here : one (is_out job.task && bytes_eq (key_at origins job.origin) (key_at origins origin)) ≡ one (is_out job.task && (job.origin == origin)) = ap (λ z. one (is_out job.task && z)) same in
    let left = out-cons (key_at origins origin) (item_of origins job) (map (item_of origins) jobs) in
    let right = one-cons (λ (j : Job). is_out j.task && (j.origin == origin)) job jobs in
    left ∙ ap (λ z. z + out_count (map (item_of origins) jobs) (key_at origins origin)) here ∙ ap (λ z. one (is_out job.task && (job.origin == origin)) + z) rest ∙ sym right

-- an origin's count, when a job of it or of another changes
pub out-set : (jobs : List Job) (number : ℕ) (job new : Job) (origin : ℕ) → slice_get jobs number ≡ Some job
    → origin_out (set jobs number new) origin + one (is_out job.task && (job.origin == origin)) ≡ origin_out jobs origin + one (is_out new.task && (new.origin == origin))
out-set jobs number job new origin at =
    let changed = sum_by-set (λ (j : Job). one (is_out j.task && (j.origin == origin))) jobs number new job (slice_get_within jobs number job at) in
    let was : get_or jobs number job ≡ job = get_or_from_slice_get jobs number job job at in
    subst (λ (z : Job). origin_out (set jobs number new) origin + one (is_out z.task && (z.origin == origin)) ≡ origin_out jobs origin + one (is_out new.task && (new.origin == origin))) was changed

pub out-append : (jobs : List Job) (new : Job) (origin : ℕ) → is_out new.task ≡ false → origin_out (jobs ++ new ∷ []) origin ≡ origin_out jobs origin
out-append jobs new origin done =
    let pushed = sum_by_push (λ (j : Job). one (is_out j.task && (j.origin == origin))) jobs new in
    let none : one (is_out new.task && (new.origin == origin)) ≡ 0 = ap (λ z. one (z && (new.origin == origin))) done in
    pushed ∙ ap (λ z. origin_out jobs origin + z) none ∙ omega arith

-- ---- who is in a queue

-- for an option, a fact at none that follows
pub none_then : {X : Type 0} (o : Option X) {P Q : Type 0} → IfNone o P → (P → Q) → IfNone o Q
none_then None here then = then here
none_then (Some x) here then = tt

pub seated : (here : Pool) (test : Job → Bool) (jobs : List Job) (count number : ℕ) (job : Job) → IsSeated here test jobs count → slice_get jobs number ≡ Some job
    → slice_get (seats here.numbers) number ≡ Some (origin_seat test job)
seated here test jobs count number job is at = ap (λ z. slice_get z number) is.seats ∙ mapped (origin_seat test) jobs number job at

-- a job that is in has its origin among those that are
pub origin_in : (here : Pool) (test : Job → Bool) (jobs : List Job) (origins : List (OriginText × ℕ)) (number : ℕ) (job : Job) → IsSeated here test jobs (length origins) → job.origin < length origins
    → slice_get jobs number ≡ Some job → test job ≡ true → Contains (origins_in origins here) (key_at origins job.origin)
origin_in here test jobs origins number job is within at passes =
    let long = is.origins in
    let seat : slice_get (seats here.origins) job.origin ≡ Some (record { queue = 0; is_queued = nat_lt 0 (queued_of here.numbers.queues.items job.origin) }) = is.pool.some job.origin (omega (arith, within, long)) in
    let in_queue : slice_get (seats here.numbers) number ≡ Some (record { queue = job.origin; is_queued = true }) =
    seated here test jobs (length origins) number job is at ∙ ap (λ z. Some (record { queue = job.origin; is_queued = z })) passes in
    go (queued_of here.numbers.queues.items job.origin) refl seat in_queue
  where
    found : slice_get (seats here.origins) job.origin ≡ Some (record { queue = 0; is_queued = true }) → Contains (origins_in origins here) (key_at origins job.origin)
    found seat =
        let there = seat_place here.origins job.origin (record { queue = 0; is_queued = true }) seat in
        let first : 0 ≡ there.0.queue = ap (λ (z : Seat). z.queue) there.2 in
        let inside : true ≡ nat_lt there.0.place (queued_of here.origins.queues.items there.0.queue) = ap (λ (z : Seat). z.is_queued) there.2 in
        let lower : true ≡ nat_lt there.0.place (queued_of here.origins.queues.items 0) = inside ∙ ap (λ z. nat_lt there.0.place (queued_of here.origins.queues.items z)) (sym first) in
        let lt : there.0.place < queued_of here.origins.queues.items 0 = grind (arith, nat_tests) in
        let held : slice_get (numbers_of here.origins.queues.items 0) there.0.place ≡ Some job.origin =
        ap (λ z. slice_get (numbers_of here.origins.queues.items z) there.0.place) first ∙ is.pool.origins.held job.origin there.0 there.1 in
        contained (origins_in origins here) there.0.place (key_at origins job.origin)
        (mapped (key_at origins) (take (queued_of here.origins.queues.items 0) (numbers_of here.origins.queues.items 0)) there.0.place job.origin
        (taken (numbers_of here.origins.queues.items 0) (queued_of here.origins.queues.items 0) there.0.place lt ∙ held))

    go : (count : ℕ) → queued_of here.numbers.queues.items job.origin ≡ count
        → slice_get (seats here.origins) job.origin ≡ Some (record { queue = 0; is_queued = nat_lt 0 (queued_of here.numbers.queues.items job.origin) })
        → slice_get (seats here.numbers) number ≡ Some (record { queue = job.origin; is_queued = true }) → Contains (origins_in origins here) (key_at origins job.origin)
    go zero e seat in_queue = absurd (none_queued here.numbers job.origin number is.pool.numbers e in_queue)
    go (suc count) e seat in_queue =
        let yes_some : nat_lt 0 (queued_of here.numbers.queues.items job.origin) ≡ true = ap (λ z. nat_lt 0 z) e ∙ grind (arith, nat_tests) in
        found (seat ∙ ap (λ z. Some (record { queue = 0; is_queued = z })) yes_some)

-- the origin at a place has the number that is first in its queue
pub number_in : (here : Pool) (test : Job → Bool) (jobs : List Job) (origins : List (OriginText × ℕ)) (place number origin : ℕ) → IsSeated here test jobs (length origins)
    → place < length (origins_in origins here) → slice_get (numbers_of here.origins.queues.items 0) place ≡ Some origin → slice_get (seats here.numbers) number ≡ Some (record { queue = origin; is_queued = true })
    → (job : Job) × (slice_get jobs number ≡ Some job) × (test job ≡ true) × (slice_get (origins_in origins here) place ≡ Some (key_at origins job.origin))
number_in here test jobs origins place number origin is lt at seat =
    let job = unmapped (origin_seat test) jobs number (record { queue = origin; is_queued = true }) (ap (λ z. slice_get z number) (sym is.seats) ∙ seat) in
    let origin_is : origin ≡ job.0.origin = ap (λ (z : Seat). z.queue) job.2 in
    let few : length (origins_in origins here) ≤ queued_of here.origins.queues.items 0 = short (queued_of here.origins.queues.items 0) (numbers_of here.origins.queues.items 0) in
    let below : place < queued_of here.origins.queues.items 0 = omega (arith, lt, few) in (
      job.0,
      job.1,
      sym (ap (λ (z : Seat). z.is_queued) job.2),
      mapped (key_at origins) (take (queued_of here.origins.queues.items 0) (numbers_of here.origins.queues.items 0)) place origin (taken (numbers_of here.origins.queues.items 0) (queued_of here.origins.queues.items 0) place below ∙ at)
          ∙ ap (λ z. Some (key_at origins z)) origin_is,
    )
  where
    short : (n : ℕ) (xs : List ℕ) → length (map (key_at origins) (take n xs)) ≤ n
    short zero [] = omega arith
    short zero (x ∷ xs) = omega arith
    short (suc n) [] = omega arith
    short (suc n) (x ∷ xs) = let rest : length (map (key_at origins) (take n xs)) ≤ n = short n xs in omega arith

-- ---- a count as code reads it

pub count_read : (lists : Lists) (origin count : ℕ) → AreListsKept lists → slice_get (map (λ entry. entry.1) lists.origins.entries) origin ≡ Some count → count ≡ origin_out lists.jobs.items origin
count_read lists origin count kept at =
    let entry = unmapped (λ (e : OriginText × ℕ). e.1) lists.origins.entries origin count at in
    entry.2 ∙ kept.out origin entry.0 entry.1

pub out_some : (jobs : List Job) (number : ℕ) (job : Job) → slice_get jobs number ≡ Some job → is_out job.task ≡ true → 0 < origin_out jobs job.origin
out_some jobs number job at out =
    let most = get_or-le-sum_by (λ (j : Job). one (is_out j.task && (j.origin == job.origin))) jobs number job (slice_get_within jobs number job at) in
    let was : get_or jobs number job ≡ job = get_or_from_slice_get jobs number job job at in
    let most_here : one (is_out job.task && (job.origin == job.origin)) ≤ origin_out jobs job.origin = subst (λ (z : Job). one (is_out z.task && (z.origin == job.origin)) ≤ origin_out jobs job.origin) was most in
    let itself : (job.origin == job.origin) ≡ true = eq-eqb job.origin job.origin refl in
    let counted : one (is_out job.task && (job.origin == job.origin)) ≡ 1 = ap (λ z. one (z && (job.origin == job.origin))) out ∙ ap (λ z. one z) itself in
    omega (arith, most_here, counted)

pub out_few : (jobs : List Job) (origin : ℕ) → origin_out jobs origin ≤ length jobs
out_few jobs origin = count_by-le-length (λ (j : Job). is_out j.task && (j.origin == origin)) jobs
