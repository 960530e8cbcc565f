-- What ends a wait, and that each call makes at most one step.
use Rattle.std.proofs.Common.{◌≡◌, ◌⊎◌, ◌↔◌, ◌<◌, ℕ, Bool, true, false, not, length, refl, inl, inr, Ok, Err, ◌∙◌}
use Rattle.std.specs.Prelude.{Result, IsTrue, OnErr, OnOk, IfOk}
use Rattle.frontier_core.specs.Plans.{policy}
use Rattle.frontier_core.specs.Machine.{Action, IsRunning}
use Rattle.frontier_core.specs.Traced.{Traced, Makes, Stops, Spreads, SpreadsPart, RefusesEdge, HasDue, HasRules, HasWaitingPage}
use Rattle.frontier_core.specs.Taken.{TakesWork}
use Rattle.frontier_core.specs.Waits.{ends_waits}
use Rattle.frontier_core.specs.declared.event.Cause.{Cause}
use Rattle.frontier_core.specs.declared.work.Work.{Work}
use Rattle.frontier_core.specs.declared.work.Work.TheVariants.{Stopped, Spread, Robots, Page, Quiet, Busy}
use Rattle.frontier_core.proofs.Waits.{held_up}
use Rattle.frontier_lock.specs.inner.Waits.{IsSleptAt, MakesAtMostOne}

-- a step that is made while somebody may be asleep is one that can end a wait
pub ends : (old new : Traced) (action : Action) → IsSleptAt old → Makes old action new → IsTrue (ends_waits action)
ends old new action (worker, (running, spread, rules, page, left, is)) made = held_up (policy old.plan) old.state (running, spread, rules, page, left) action new.state made.step

-- if it is said that it ended no wait, nothing changed
pub unmoved : (old new : Traced) (said : Bool) → MakesAtMostOne old new → ((action : Action) → Makes old action new → said ≡ ends_waits action) → IsSleptAt old → said ≡ false → new ≡ old
unmoved old new said one exact slept not_said = one.same (λ action made. let is_said : said ≡ true = exact action made ∙ ends old new action slept made in cc (is_said, not_said))

-- ---- one step, or none

pub makes_one : (old new : Traced) (action : Action) → Makes old action new → MakesAtMostOne old new
makes_one old new action made = record { same = λ none. absurd (none action made) }

pub same_one : (old new : Traced) → new ≡ old → MakesAtMostOne old new
same_one old new is = record { same = λ none. is }

pub stop_one : (old new : Traced) (cause : Cause) → Stops old cause new → MakesAtMostOne old new
stop_one old new cause (inl (running, made)) = makes_one old new _ made
stop_one old new cause (inr (stopped, is)) = same_one old new is

-- a permit that is given up is one step, and a stray one stops
pub abandon_one : {IsOut : Type 0} (old new : Traced) (action : Action) (cause : Cause) → (IsOut → Makes old action new) → (¬ IsOut → Stops old cause new) → MakesAtMostOne old new
abandon_one old new action cause out stray = record { same = λ none. (stop_one old new cause (stray (λ it. none action (out it)))).same none }

take_one_of : (old new : Traced) (worker : ℕ) (work : Work) → TakesWork old worker work new → MakesAtMostOne old new
take_one_of old new worker (Stopped cause) (stopped, is) = same_one old new is
take_one_of old new worker Spread (running, due, is) = same_one old new is
take_one_of old new worker (Robots permit) (undue, for, made, asked) = makes_one old new _ made
take_one_of old new worker (Page permit) (undue, unruled, for, made, out) = makes_one old new _ made
take_one_of old new worker Quiet (quiet, is) = same_one old new is
take_one_of old new worker Busy (running, undue, unruled, unpaged, left, is) = same_one old new is

-- what no memory for a permit leaves
abbrev Unmet : Traced → Traced → Type 0
Unmet old new = (new ≡ old) × IsRunning old.state × (¬ HasDue old.state) × (HasRules (policy old.plan) old.state ⊎ HasWaitingPage (policy old.plan) old.state)

pub take_one : {E : Type 0} (old new : Traced) (worker : ℕ) (answer : Result Work E) → IfOk answer (λ work. TakesWork old worker work new) → OnErr answer (Unmet old new) → MakesAtMostOne old new
take_one old new worker (Ok work) takes err = take_one_of old new worker work takes
take_one old new worker (Err wanting) takes err = same_one old new err.0

pub spread_one : {E : Type 0} (old new : Traced) (answer : Result (Unit {0}) E) → OnOk answer (Spreads old new) → OnErr answer (RefusesEdge old new ⊎ (new ≡ old)) → MakesAtMostOne old new
spread_one old new (Ok done) (inl (d, u, k, made)) err = makes_one old new _ made
spread_one old new (Ok done) (inr (undue, is)) err = same_one old new is
spread_one old new (Err fault) ok (inl (d, u, k, made, stuck)) = makes_one old new _ made
spread_one old new (Err fault) ok (inr is) = same_one old new is

-- ---- no step while somebody may be asleep

take_still_of : (old new : Traced) (worker : ℕ) (work : Work) → TakesWork old worker work new → IsSleptAt old → new ≡ old
take_still_of old new worker (Stopped cause) (stopped, is) slept = is
take_still_of old new worker Spread (running, due, is) slept = is
take_still_of old new worker (Robots permit) (undue, for, made, asked) slept = let wrong : false ≡ true = ends old new _ slept made in cc
take_still_of old new worker (Page permit) (undue, unruled, for, made, out) slept = let wrong : false ≡ true = ends old new _ slept made in cc
take_still_of old new worker Quiet (quiet, is) slept = is
take_still_of old new worker Busy (running, undue, unruled, unpaged, left, is) slept = is

pub take_still : {E : Type 0} (old new : Traced) (worker : ℕ) (answer : Result Work E) → IfOk answer (λ work. TakesWork old worker work new) → OnErr answer (Unmet old new) → IsSleptAt old → new ≡ old
take_still old new worker (Ok work) takes err slept = take_still_of old new worker work takes slept
take_still old new worker (Err wanting) takes err slept = err.0

pub spread_still : {E : Type 0} (old new : Traced) (answer : Result (Unit {0}) E) → OnOk answer (Spreads old new) → OnErr answer (RefusesEdge old new ⊎ (new ≡ old)) → IsSleptAt old → new ≡ old
spread_still old new (Ok done) (inl (d, u, k, made)) err slept = let wrong : false ≡ true = ends old new _ slept made in cc
spread_still old new (Ok done) (inr (undue, is)) err slept = is
spread_still old new (Err fault) ok (inl (d, u, k, made, stuck)) slept = let wrong : false ≡ true = ends old new _ slept made in cc
spread_still old new (Err fault) ok (inr is) slept = is

-- ---- an exchange

-- what is spread in part because memory ran out had room
pub short_of : (old new : Traced) → SpreadsPart old new ⊎ (new ≡ old) → (new ≡ old) ⊎ (length new.state.entries < new.plan.max_urls)
    → (new ≡ old) ⊎ (SpreadsPart old new × (length new.state.entries < new.plan.max_urls))
short_of old new part (inl is) = inl is
short_of old new (inl part) (inr few) = inr (part, few)
short_of old new (inr is) (inr few) = inl is

-- somebody may be asleep exactly if it is said to be busy
pub slept_if : (s : Traced) (busy : Bool) → ((worker : ℕ) → IsTrue busy ↔ TakesWork s worker Busy s) → IsTrue busy ↔ IsSleptAt s
slept_if s busy told = (λ is. (0, (told 0).0 is), λ (worker, takes). (told worker).1 takes)

-- if it was busy, all are woken exactly if it is busy no more
pub woken_unless : (old new : Traced) (busy : Bool) → IsSleptAt old → IsTrue busy ↔ IsSleptAt new → IsTrue (not busy) ↔ (IsSleptAt old × ¬ IsSleptAt new)
woken_unless old new true slept told = (λ wakes. let wrong : false ≡ true = wakes in cc, λ (was, awake). absurd (awake (told.0 refl)))
woken_unless old new false slept told = (λ wakes. (slept, λ is. let wrong : false ≡ true = told.1 is in cc), λ (was, awake). refl)

-- if nobody is woken that may be asleep, it is busy still
pub asleep_still : (new : Traced) (busy : Bool) → IsTrue busy ↔ IsSleptAt new → not busy ≡ false → IsSleptAt new
asleep_still new true told none = told.0 refl
asleep_still new false told none = cc

-- if it wasn't busy, nobody is asleep, and nobody woken
pub none_woken : (old new : Traced) (busy said : Bool) → busy ≡ false → said ≡ false → IsTrue busy ↔ IsSleptAt old → IsTrue said ↔ (IsSleptAt old × ¬ IsSleptAt new)
none_woken old new busy said idle none told =
    (λ wakes. let is : said ≡ true = wakes in cc (is, none), λ (slept, awake). let is : busy ≡ true = told.1 slept in cc (is, idle))
