-- What keeps the lists of an agenda together.
use Rattle.std.proofs.Common.{◌≡◌, ◌≢◌, ◌⊎◌, ◌<◌, ◌≤◌, ◌+◌, ◌==◌, ℕ, zero, suc, Bool, true, false, ◌&&◌, List, [], ◌∷◌, ◌++◌, map, set, get_or, length, cond, nat_lt, Some, None, inl, inr, refl, sym, ap, ◌∙◌, subst, arith}
use Rattle.std.specs.Prelude.{slice_get, vec_len, position}
use Rattle.std.specs.Str.{bytes_eq}
use Rattle.std.proofs.Common.{length-append}
use Rattle.std.proofs.lemmas.Bool.Decides.{eqb_tells, nat_tests}
use Rattle.std.proofs.lemmas.Slice.Eq.{bytes_eq-Decides}
use Rattle.std.proofs.lemmas.Option.{slice_get_within}
use Rattle.std.proofs.lemmas.List.{length-map, map-set, get_or_append_left}
use Rattle.std.specs.List.{position_or_len}
use Rattle.std.proofs.lemmas.List.Sums.{sum_by-cons, fails_before_first}
use Rattle.std.proofs.Math.Seq.{get_or-append_seam}
use Rattle.address.specs.Address.{OriginText}
use Rattle.indexmap.specs.IndexMap.{set_value_at, insert_entry}
use Rattle.work_queues.specs.Queues.{Seat, seats, IsPlaced}
use Rattle.work_queues.specs.Pools.{IsPool}
use Rattle.work_queues.specs.Tasks.{Item, is_parked, is_waiting, is_out, is_due}
use Rattle.work_queues.specs.Lists.{texts, key_at, item_of, items_of, origin_seat, origin_out, IsSeated, AreListsKept}
use Rattle.work_queues.specs.inner.Lists.{one}
use Rattle.work_queues.specs.declared.lists.Job.{Job}
use Rattle.work_queues.specs.declared.lists.Lists.{Lists}
use Rattle.work_queues.specs.declared.pool.Pool.{Pool}
use Rattle.work_queues.specs.declared.task.Task.{Task}
use Rattle.work_queues.proofs.QueueLaws.{equal, unequal, compare_numbers, get-set_same, get-set_other}
use Rattle.work_queues.proofs.Additions.{get-append_cases, map-each, map-append}
use Rattle.work_queues.proofs.ListLaws.{job_of, out-set, out-append}

-- ---- a count that is written

texts-write : (origins : List (OriginText × ℕ)) (origin count : ℕ) → texts (set_value_at origins origin count) ≡ texts origins
texts-write [] origin count = refl
texts-write (first ∷ others) zero count = refl
texts-write (first ∷ others) (suc origin) count = ap (λ z. first.0 ∷ z) (texts-write others origin count)

length-write : (origins : List (OriginText × ℕ)) (origin count : ℕ) → length (set_value_at origins origin count) ≡ length origins
length-write [] origin count = refl
length-write (first ∷ others) zero count = refl
length-write (first ∷ others) (suc origin) count = ap suc (length-write others origin count)

written_same : (origins : List (OriginText × ℕ)) (origin count : ℕ) (entry : OriginText × ℕ) → slice_get (set_value_at origins origin count) origin ≡ Some entry → entry.1 ≡ count
written_same [] origin count entry at = cc
written_same (first ∷ others) zero count entry at = let is : (first.0, count) ≡ entry = cc in ap (λ z. z.1) (sym is)
written_same (first ∷ others) (suc origin) count entry at = written_same others origin count entry at

written_other : (origins : List (OriginText × ℕ)) (origin other count : ℕ) → other ≢ origin → slice_get (set_value_at origins origin count) other ≡ slice_get origins other
written_other [] origin other count differ = refl
written_other (first ∷ others) zero zero count differ = absurd (differ refl)
written_other (first ∷ others) zero (suc other) count differ = refl
written_other (first ∷ others) (suc origin) zero count differ = refl
written_other (first ∷ others) (suc origin) (suc other) count differ = written_other others origin other count (λ h. differ (ap suc h))

-- ---- a job that changes

-- the seats of a pool after one of its jobs changed
pub reseated : (old new : Pool) (test : Job → Bool) (jobs : List Job) (count number : ℕ) (job : Job) → IsSeated old test jobs count → IsPool new
    → seats new.numbers ≡ set (seats old.numbers) number (record { queue = job.origin; is_queued = test job }) → vec_len new.numbers.queues ≡ vec_len old.numbers.queues
    → IsSeated new test (set jobs number job) count
reseated old new test jobs count number job is pool changed queues =
    record {
      pool = pool;
      seats = changed ∙ ap (λ z. set z number (origin_seat test job)) is.seats ∙ sym (map-set (origin_seat test) jobs number job);
      origins = let long = is.origins in omega (arith, long, queues);
    }

-- the seat of a job among those that are due
abbrev pub due_seat : Job → Seat
due_seat job = record { queue = 0; is_queued = is_due job.task }

-- what the code of a change leaves
pub record IsChanged (old new : Lists) (number : ℕ) (job : Job) (task : Task) (count : ℕ) : Type 0 where
  pub at : slice_get old.jobs.items number ≡ Some job
  pub jobs : new.jobs.items ≡ set old.jobs.items number (record { origin = job.origin; task = task })
  pub origins : new.origins.entries ≡ set_value_at old.origins.entries job.origin count
  pub counted : count + one (is_out job.task) ≡ origin_out old.jobs.items job.origin + one (is_out task)
  pub waiting : IsSeated new.waiting (λ j. is_waiting j.task) (set old.jobs.items number (record { origin = job.origin; task = task })) (length old.origins.entries)
  pub parked : IsSeated new.parked (λ j. is_parked j.task) (set old.jobs.items number (record { origin = job.origin; task = task })) (length old.origins.entries)
  pub due_placed : IsPlaced new.due
  pub due : seats new.due ≡ set (seats old.due) number (record { queue = 0; is_queued = is_due task })
  pub due_queue : vec_len new.due.queues ≡ 1

and_true : (b c : Bool) → c ≡ true → one (b && c) ≡ one b
and_true true c is = ap one is
and_true false c is = refl

and_false : (b c : Bool) → c ≡ false → one (b && c) ≡ 0
and_false true c is = ap one is
and_false false c is = refl

changed_out : (old new : Lists) (number : ℕ) (job : Job) (task : Task) (count : ℕ) → AreListsKept old → IsChanged old new number job task count
    → (origin : ℕ) (entry : OriginText × ℕ) → slice_get new.origins.entries origin ≡ Some entry → entry.1 ≡ origin_out new.jobs.items origin
changed_out old new number job task count kept is origin entry at =
    go (eqb_tells job.origin origin)
  where
    after : Job
    after = record { origin = job.origin; task = task }

    here : slice_get (set_value_at old.origins.entries job.origin count) origin ≡ Some entry
    here = ap (λ z. slice_get z origin) (sym is.origins) ∙ at

    jobs_out : origin_out new.jobs.items origin ≡ origin_out (set old.jobs.items number (record { origin = job.origin; task = task })) origin
    jobs_out = ap (λ z. origin_out z origin) is.jobs

    change : origin_out (set old.jobs.items number (record { origin = job.origin; task = task })) origin + one (is_out job.task && (job.origin == origin)) ≡ origin_out old.jobs.items origin + one (is_out task && (job.origin == origin))
    change = out-set old.jobs.items number job (record { origin = job.origin; task = task }) origin is.at

    go : (((job.origin == origin) ≡ true) × (job.origin ≡ origin)) ⊎ (((job.origin == origin) ≡ false) × (job.origin ≢ origin)) → entry.1 ≡ origin_out new.jobs.items origin
    go (inl h) =
        let value : entry.1 ≡ count = written_same old.origins.entries job.origin count entry (ap (λ z. slice_get (set_value_at old.origins.entries job.origin count) z) h.1 ∙ here) in
        let before = and_true (is_out job.task) (job.origin == origin) h.0 in
        let now = and_true (is_out task) (job.origin == origin) h.0 in
        let counted = is.counted in
        let moved : origin_out old.jobs.items job.origin ≡ origin_out old.jobs.items origin = ap (λ z. origin_out old.jobs.items z) h.1 in
        value ∙ sym (jobs_out ∙ omega (arith, change, before, now, counted, moved))
    go (inr h) =
        let before = and_false (is_out job.task) (job.origin == origin) h.0 in
        let now = and_false (is_out task) (job.origin == origin) h.0 in
        let was = kept.out origin entry (sym (written_other old.origins.entries job.origin origin count (λ e. h.1 (sym e))) ∙ here) in
        was ∙ sym (jobs_out ∙ omega (arith, change, before, now))

pub changed_keeps : (old new : Lists) (number : ℕ) (job : Job) (task : Task) (count : ℕ) → AreListsKept old → IsChanged old new number job task count → AreListsKept new
changed_keeps old new number job task count kept is =
    record {
      within = within;
      distinct = λ a b in_a in_b same. kept.distinct a b (omega (arith, in_a, lens)) (omega (arith, in_b, lens)) (ap (λ z. get_or z a []) (sym same_texts) ∙ same ∙ ap (λ z. get_or z b []) same_texts);
      out = changed_out old new number job task count kept is;
      waiting = subst (λ z. IsSeated new.waiting (λ j. is_waiting j.task) z (length new.origins.entries)) (sym is.jobs)
          (subst (λ z. IsSeated new.waiting (λ j. is_waiting j.task) (set old.jobs.items number (record { origin = job.origin; task = task })) z) (sym lens) is.waiting);
      parked = subst (λ z. IsSeated new.parked (λ j. is_parked j.task) z (length new.origins.entries)) (sym is.jobs)
          (subst (λ z. IsSeated new.parked (λ j. is_parked j.task) (set old.jobs.items number (record { origin = job.origin; task = task })) z) (sym lens) is.parked);
      due_placed = is.due_placed;
      due = is.due ∙ ap (λ z. set z number (record { queue = 0; is_queued = is_due task })) kept.due
          ∙ sym (map-set due_seat old.jobs.items number (record { origin = job.origin; task = task })) ∙ ap (λ z. map due_seat z) (sym is.jobs);
      due_queue = is.due_queue;
    }
  where
    lens : length new.origins.entries ≡ length old.origins.entries
    lens = ap (λ z. length z) is.origins ∙ length-write old.origins.entries job.origin count

    same_texts : texts new.origins.entries ≡ texts old.origins.entries
    same_texts = ap (λ z. texts z) is.origins ∙ texts-write old.origins.entries job.origin count

    within : (n : ℕ) (j : Job) → slice_get new.jobs.items n ≡ Some j → j.origin < length new.origins.entries
    within n j at =
        let there : slice_get (set old.jobs.items number (record { origin = job.origin; task = task })) n ≡ Some j = ap (λ z. slice_get z n) (sym is.jobs) ∙ at in
        let here = kept.within number job is.at in
        elim (compare_numbers n number) [
          | equal h ↦
              (let one_job : Some (record { origin = job.origin; task = task }) ≡ Some j =
              sym (get-set_same old.jobs.items number (record { origin = job.origin; task = task }) (slice_get_within old.jobs.items number job is.at))
              ∙ ap (λ z. slice_get (set old.jobs.items number (record { origin = job.origin; task = task })) z) (sym h) ∙ there in
              let two : record { origin = job.origin; task = task } ≡ j = cc in
              let origin_is : job.origin ≡ j.origin = ap (λ (z : Job). z.origin) two in
              omega (arith, here, lens, origin_is))
          | unequal h ↦
              (let was = kept.within n j (sym (get-set_other old.jobs.items number n (record { origin = job.origin; task = task }) h) ∙ there) in
              omega (arith, was, lens))
        ]

pub changed_items : (old new : Lists) (number : ℕ) (job : Job) (task : Task) (count : ℕ) → IsChanged old new number job task count → (item : Item) → slice_get (items_of old) number ≡ Some item
    → items_of new ≡ set (items_of old) number (record { origin = item.origin; task = task })
changed_items old new number job task count is item at =
    let there = job_of old number item at in
    let one_job : Some there.0 ≡ Some job = sym there.1 ∙ is.at in
    let same : there.0 ≡ job = cc in
    ap (λ z. map (item_of new.origins.entries) z) is.jobs
    ∙ map-each (item_of new.origins.entries) (item_of old.origins.entries) each (set old.jobs.items number (record { origin = job.origin; task = task }))
    ∙ map-set (item_of old.origins.entries) old.jobs.items number (record { origin = job.origin; task = task })
    ∙ ap (λ z. set (items_of old) number (record { origin = z; task = task })) (ap (λ (z : Job). key_at old.origins.entries z.origin) (sym same) ∙ ap (λ (z : Item). z.origin) (sym there.2))
  where
    each : (j : Job) → item_of new.origins.entries j ≡ item_of old.origins.entries j
    each j = ap (λ z. record { origin = get_or z j.origin []; task = j.task }) (ap (λ z. texts z) is.origins ∙ texts-write old.origins.entries job.origin count)

-- ---- room that is made, or isn't

-- no fewer, as it is as many
pub as_many : (a b : ℕ) → b ≡ a → a ≤ b
as_many a b same = omega arith

-- no fewer, as it is one more
pub one_more : (a b : ℕ) → b ≡ a + 1 → a ≤ b
one_more a b more = omega arith

-- the seats of a pool that seats the same numbers
still_seated : (old new : Pool) (test : Job → Bool) (jobs : List Job) (count : ℕ) → IsSeated old test jobs count → IsPool new
    → seats new.numbers ≡ seats old.numbers → vec_len old.numbers.queues ≤ vec_len new.numbers.queues → IsSeated new test jobs count
still_seated old new test jobs count is pool same more = record { pool = pool; seats = same ∙ is.seats; origins = let long = is.origins in omega (arith, long, more) }

-- the lists stay as they are except for room, and for origins that the pools have more
pub room_keeps : (old new : Lists) → AreListsKept old → new.origins.entries ≡ old.origins.entries → new.jobs.items ≡ old.jobs.items
    → IsPool new.waiting → seats new.waiting.numbers ≡ seats old.waiting.numbers → vec_len old.waiting.numbers.queues ≤ vec_len new.waiting.numbers.queues
    → IsPool new.parked → seats new.parked.numbers ≡ seats old.parked.numbers → vec_len old.parked.numbers.queues ≤ vec_len new.parked.numbers.queues
    → IsPlaced new.due → seats new.due ≡ seats old.due → vec_len new.due.queues ≡ vec_len old.due.queues → AreListsKept new
room_keeps old new kept origins jobs waiting waiting_seats waiting_more parked parked_seats parked_more due due_seats due_queues =
    record {
      within = λ number job at. subst (λ z. job.origin < length z) (sym origins) (kept.within number job (ap (λ z. slice_get z number) (sym jobs) ∙ at));
      distinct = subst (λ (z : List (OriginText × ℕ)). (a b : ℕ) → a < length z → b < length z → key_at z a ≡ key_at z b → a ≡ b) (sym origins) kept.distinct;
      out = λ origin entry at. kept.out origin entry (ap (λ z. slice_get z origin) (sym origins) ∙ at) ∙ ap (λ z. origin_out z origin) (sym jobs);
      waiting = subst (λ z. IsSeated new.waiting (λ j. is_waiting j.task) z (length new.origins.entries)) (sym jobs)
          (subst (λ z. IsSeated new.waiting (λ j. is_waiting j.task) old.jobs.items (length z)) (sym origins)
          (still_seated old.waiting new.waiting (λ j. is_waiting j.task) old.jobs.items (length old.origins.entries) kept.waiting waiting waiting_seats waiting_more));
      parked = subst (λ z. IsSeated new.parked (λ j. is_parked j.task) z (length new.origins.entries)) (sym jobs)
          (subst (λ z. IsSeated new.parked (λ j. is_parked j.task) old.jobs.items (length z)) (sym origins)
          (still_seated old.parked new.parked (λ j. is_parked j.task) old.jobs.items (length old.origins.entries) kept.parked parked parked_seats parked_more));
      due_placed = due;
      due = due_seats ∙ kept.due ∙ ap (λ z. map due_seat z) (sym jobs);
      due_queue = due_queues ∙ kept.due_queue;
    }

-- ---- a number more

-- the seats of a pool after a number was added that isn't in
added_seated : (old new : Pool) (test : Job → Bool) (jobs : List Job) (count : ℕ) (job : Job) → IsSeated old test jobs count → IsPool new → test job ≡ false
    → seats new.numbers ≡ seats old.numbers ++ record { queue = job.origin; is_queued = false } ∷ [] → vec_len new.numbers.queues ≡ vec_len old.numbers.queues
    → IsSeated new test (jobs ++ job ∷ []) count
added_seated old new test jobs count job is pool out added queues =
    record {
      pool = pool;
      seats = added
          ∙ ap (λ z. z ++ record { queue = job.origin; is_queued = false } ∷ []) is.seats
          ∙ ap (λ z. map (origin_seat test) jobs ++ record { queue = job.origin; is_queued = z } ∷ []) (sym out)
          ∙ sym (map-append (origin_seat test) jobs job);
      origins = let long = is.origins in omega (arith, long, queues);
    }

pub appended_keeps : (old new : Lists) (job : Job) → AreListsKept old → new.origins ≡ old.origins → new.jobs.items ≡ old.jobs.items ++ job ∷ [] → job.origin < length old.origins.entries
    → is_out job.task ≡ false → is_waiting job.task ≡ false → is_parked job.task ≡ false → is_due job.task ≡ false
    → IsPool new.waiting → seats new.waiting.numbers ≡ seats old.waiting.numbers ++ record { queue = job.origin; is_queued = false } ∷ []
    → vec_len new.waiting.numbers.queues ≡ vec_len old.waiting.numbers.queues
    → IsPool new.parked → seats new.parked.numbers ≡ seats old.parked.numbers ++ record { queue = job.origin; is_queued = false } ∷ []
    → vec_len new.parked.numbers.queues ≡ vec_len old.parked.numbers.queues
    → IsPlaced new.due → seats new.due ≡ seats old.due ++ record { queue = 0; is_queued = false } ∷ [] → vec_len new.due.queues ≡ vec_len old.due.queues → AreListsKept new
appended_keeps old new job kept origins jobs in_origins out waits parks dues waiting waiting_seats waiting_queues parked parked_seats parked_queues due due_seats due_queues =
    record {
      within = within;
      distinct = λ a b in_a in_b same. kept.distinct a b (omega (arith, in_a, lens)) (omega (arith, in_b, lens)) (ap (λ z. key_at z a) (sym entries) ∙ same ∙ ap (λ z. key_at z b) entries);
      out = λ origin entry at. kept.out origin entry (ap (λ z. slice_get z origin) (sym entries) ∙ at) ∙ sym (ap (λ z. origin_out z origin) jobs ∙ out-append old.jobs.items job origin out);
      waiting = subst (λ z. IsSeated new.waiting (λ j. is_waiting j.task) z (length new.origins.entries)) (sym jobs)
          (subst (λ z. IsSeated new.waiting (λ j. is_waiting j.task) (old.jobs.items ++ job ∷ []) z) (sym lens)
          (added_seated old.waiting new.waiting (λ j. is_waiting j.task) old.jobs.items (length old.origins.entries) job kept.waiting waiting waits waiting_seats waiting_queues));
      parked = subst (λ z. IsSeated new.parked (λ j. is_parked j.task) z (length new.origins.entries)) (sym jobs)
          (subst (λ z. IsSeated new.parked (λ j. is_parked j.task) (old.jobs.items ++ job ∷ []) z) (sym lens)
          (added_seated old.parked new.parked (λ j. is_parked j.task) old.jobs.items (length old.origins.entries) job kept.parked parked parks parked_seats parked_queues));
      due_placed = due;
      due = due_seats
          ∙ ap (λ z. z ++ record { queue = 0; is_queued = false } ∷ []) kept.due
          ∙ ap (λ z. map due_seat old.jobs.items ++ record { queue = 0; is_queued = z } ∷ []) (sym dues)
          ∙ sym (map-append due_seat old.jobs.items job)
          ∙ ap (λ z. map due_seat z) (sym jobs);
      due_queue = due_queues ∙ kept.due_queue;
    }
  where
    entries : new.origins.entries ≡ old.origins.entries
    entries = ap (λ z. z.entries) origins

    lens : length new.origins.entries ≡ length old.origins.entries
    lens = ap (λ z. length z) entries

    within : (number : ℕ) (j : Job) → slice_get new.jobs.items number ≡ Some j → j.origin < length new.origins.entries
    within number j at =
        elim (get-append_cases old.jobs.items job number j (ap (λ z. slice_get z number) (sym jobs) ∙ at)) [
          | inl h ↦ (let was = kept.within number j h in omega (arith, was, lens))
          | inr h ↦ (let origin_is : job.origin ≡ j.origin = ap (λ (z : Job). z.origin) h.1 in omega (arith, in_origins, lens, origin_is))
        ]

-- ---- an origin more

-- no job has an origin that isn't there
none_out : (jobs : List Job) (origin : ℕ) → ((number : ℕ) (job : Job) → slice_get jobs number ≡ Some job → job.origin < origin) → origin_out jobs origin ≡ 0
none_out [] origin within = refl
none_out (job ∷ jobs) origin within =
    let rest = none_out jobs origin (λ number j at. within (suc number) j at) in
    let lt : job.origin < origin = within 0 job refl in
    let cons = sum_by-cons (λ (j : Job). one (is_out j.task && (j.origin == origin))) job jobs in
    elim (eqb_tells job.origin origin) [
      | inl h ↦ absurd (omega (arith, lt, h.1))
      | inr h ↦ (let none = and_false (is_out job.task) (job.origin == origin) h.0 in omega (arith, cons, none, rest))
    ]

pub key-append : (origins : List (OriginText × ℕ)) (origin : OriginText) (count place : ℕ) → place < length origins → key_at (origins ++ (origin, count) ∷ []) place ≡ key_at origins place
key-append origins origin count place lt =
    ap (λ z. get_or z place []) (map-append (λ (e : OriginText × ℕ). e.0) origins (origin, count)) ∙ get_or_append_left (texts origins) (origin ∷ []) [] place (simp length-map lt)

pub key-append_last : (origins : List (OriginText × ℕ)) (origin : OriginText) (count : ℕ) → key_at (origins ++ (origin, count) ∷ []) (length origins) ≡ origin
key-append_last origins origin count =
    let long : length (texts origins) ≡ length origins = simp length-map in
    ap (λ z. get_or z (length origins) []) (map-append (λ (e : OriginText × ℕ). e.0) origins (origin, count))
    ∙ ap (λ z. get_or (texts origins ++ origin ∷ []) z []) (sym long)
    ∙ get_or-append_seam (texts origins) origin [] []

pub opened_keeps : (old new : Lists) (origin : OriginText) → AreListsKept old → new.origins.entries ≡ old.origins.entries ++ (origin, 0) ∷ [] → new.jobs ≡ old.jobs → new.due ≡ old.due
    → ((place : ℕ) → place < length old.origins.entries → key_at old.origins.entries place ≢ origin)
    → IsPool new.waiting → seats new.waiting.numbers ≡ seats old.waiting.numbers → vec_len new.waiting.numbers.queues ≡ vec_len old.waiting.numbers.queues + 1
    → IsPool new.parked → seats new.parked.numbers ≡ seats old.parked.numbers → vec_len new.parked.numbers.queues ≡ vec_len old.parked.numbers.queues + 1 → AreListsKept new
opened_keeps old new origin kept origins jobs due absent waiting waiting_seats waiting_queues parked parked_seats parked_queues =
    record {
      within = λ number job at. (let was = kept.within number job (ap (λ z. slice_get z.items number) (sym jobs) ∙ at) in omega (arith, was, more));
      distinct = distinct;
      out = out;
      waiting = record {
        pool = waiting;
        seats = waiting_seats ∙ kept.waiting.seats ∙ ap (λ z. map (origin_seat (λ j. is_waiting j.task)) z.items) (sym jobs);
        origins = let long = kept.waiting.origins in omega (arith, long, waiting_queues, more);
      };
      parked = record {
        pool = parked;
        seats = parked_seats ∙ kept.parked.seats ∙ ap (λ z. map (origin_seat (λ j. is_parked j.task)) z.items) (sym jobs);
        origins = let long = kept.parked.origins in omega (arith, long, parked_queues, more);
      };
      due_placed = subst (λ z. IsPlaced z) (sym due) kept.due_placed;
      due = ap (λ z. seats z) due ∙ kept.due ∙ ap (λ z. map due_seat z.items) (sym jobs);
      due_queue = ap (λ z. vec_len z.queues) due ∙ kept.due_queue;
    }
  where
    more : length new.origins.entries ≡ length old.origins.entries + 1
    more = ap (λ z. length z) origins ∙ simp length-append (omega arith)

    jobs_within : (number : ℕ) (job : Job) → slice_get new.jobs.items number ≡ Some job → job.origin < length old.origins.entries
    jobs_within number job at = kept.within number job (ap (λ z. slice_get z.items number) (sym jobs) ∙ at)

    key_old : (place : ℕ) → place < length old.origins.entries → key_at new.origins.entries place ≡ key_at old.origins.entries place
    key_old place lt = ap (λ z. key_at z place) origins ∙ key-append old.origins.entries origin 0 place lt

    key_new : (place : ℕ) → place ≡ length old.origins.entries → key_at new.origins.entries place ≡ origin
    key_new place is = ap (λ z. key_at z place) origins ∙ ap (λ z. key_at (old.origins.entries ++ (origin, 0) ∷ []) z) is ∙ key-append_last old.origins.entries origin 0

    distinct : (a b : ℕ) → a < length new.origins.entries → b < length new.origins.entries → key_at new.origins.entries a ≡ key_at new.origins.entries b → a ≡ b
    distinct a b in_a in_b same =
        elim (compare_numbers a (length old.origins.entries)) [
          | equal h ↦ elim (compare_numbers b (length old.origins.entries)) [
            | equal k ↦ h ∙ sym k
            | unequal k ↦ (let lt : b < length old.origins.entries = omega (arith, in_b, more, k) in absurd (absent b lt (sym (key_old b lt) ∙ sym same ∙ key_new a h)))
          ]
          | unequal h ↦
              (let lt_a : a < length old.origins.entries = omega (arith, in_a, more, h) in
              elim (compare_numbers b (length old.origins.entries)) [
                | equal k ↦ absurd (absent a lt_a (sym (key_old a lt_a) ∙ same ∙ key_new b k))
                | unequal k ↦ (let lt_b : b < length old.origins.entries = omega (arith, in_b, more, k) in kept.distinct a b lt_a lt_b (sym (key_old a lt_a) ∙ same ∙ key_old b lt_b))
              ])
        ]

    out : (place : ℕ) (entry : OriginText × ℕ) → slice_get new.origins.entries place ≡ Some entry → entry.1 ≡ origin_out new.jobs.items place
    out place entry at =
        elim (get-append_cases old.origins.entries (origin, 0) place entry (ap (λ z. slice_get z place) (sym origins) ∙ at)) [
          | inl h ↦ kept.out place entry h ∙ ap (λ z. origin_out z.items place) (sym jobs)
          | inr h ↦ sym (ap (λ z. z.1) h.1) ∙ sym (none_out new.jobs.items place (λ number job there. (let lt = jobs_within number job there in let end = h.0 in omega (arith, lt, end))))
        ]

-- the items when only an origin is added
pub opened_items : (old new : Lists) (origin : OriginText) → AreListsKept old → new.origins.entries ≡ old.origins.entries ++ (origin, 0) ∷ [] → new.jobs ≡ old.jobs → items_of new ≡ items_of old
opened_items old new origin kept origins jobs =
    ap (λ z. map (item_of new.origins.entries) z.items) jobs ∙ ap (λ z. map (item_of z) old.jobs.items) origins ∙ go old.jobs.items kept.within
  where
    go : (js : List Job) → ((number : ℕ) (job : Job) → slice_get js number ≡ Some job → job.origin < length old.origins.entries)
        → map (item_of (old.origins.entries ++ (origin, 0) ∷ [])) js ≡ map (item_of old.origins.entries) js
    go [] within = refl
    go (job ∷ js) within =
        let rest = go js (λ number j at. within (suc number) j at) in
        let first : item_of (old.origins.entries ++ (origin, 0) ∷ []) job ≡ item_of old.origins.entries job =
        ap (λ z. record { origin = z; task = job.task }) (key-append old.origins.entries origin 0 job.origin (within 0 job refl)) in
        cc

-- ---- an origin that isn't there

pub none_at : (xs : List OriginText) (test : OriginText → Bool) → None ≡ position test xs → (k : ℕ) → k < length xs → test (get_or xs k []) ≡ false
none_at xs test none k lt = go (nat_lt (position_or_len test xs) (length xs)) refl none
  where
    go : (b : Bool) → nat_lt (position_or_len test xs) (length xs) ≡ b → None ≡ cond b (Some (position_or_len test xs)) None → test (get_or xs k []) ≡ false
    go true e h = cc
    go false e h =
        let past : length xs ≤ position_or_len test xs = grind (arith, nat_tests) in
        fails_before_first test xs k [] (omega (arith, past, lt))

pub inserted_last : (origins : List (OriginText × ℕ)) (origin : OriginText) (count : ℕ) → ((k : ℕ) → k < length (texts origins) → bytes_eq origin (key_at origins k) ≡ false)
    → insert_entry bytes_eq origins origin count ≡ origins ++ (origin, count) ∷ []
inserted_last [] origin count absent = refl
inserted_last (first ∷ others) origin count absent =
    rw (absent 0 (omega arith)) (ap (λ z. first ∷ z) (inserted_last others origin count (λ k lt. absent (suc k) (omega arith))))

pub key_differs : (a b : OriginText) → bytes_eq a b ≡ false → b ≢ a
key_differs a b unlike is = let yes_same : bytes_eq a b ≡ true = (bytes_eq-Decides a b).1 (sym is) in cc (unlike, yes_same)

pub set-append_last : {X : Type 0} (xs : List X) (old new : X) → set (xs ++ old ∷ []) (length xs) new ≡ xs ++ new ∷ []
set-append_last [] old new = refl
set-append_last (x ∷ xs) old new = ap (λ z. x ∷ z) (set-append_last xs old new)
