-- What is put and written of what a crew retrieved is the end of a live retrieval.
use Rattle.std.proofs.Common.{◌≡◌, ◌≢◌, ◌⊎◌, ◌∙◌, ◌++◌, ℕ, inl, inr, Bool, true, false, List, [], length, Option, Some, refl, sym, ap, subst, append_assoc}
use Rattle.std.specs.Prelude.{IfSome, IfOk, IfErr, Result, Ok, Err}
use Rattle.std.specs.List.{AllZip, sum_by}
use Rattle.kept_bodies.specs.declared.body_kind.BodyKind.{BodyKind}
use Rattle.follow_filters.specs.declared.plan.Plan.{Plan}
use Rattle.options.specs.declared.naming.PageNames.{PageNames}
use Rattle.options.specs.declared.order.Order.{Order}
use Rattle.fetcher.specs.declared.fetcher.Fetcher.{Ghosts as Meaning}
use Rattle.frontier_core.specs.Invariants.{IsSound, IsComplete, IsOverfull}
use Rattle.frontier_core.specs.Machine.{State, answers}
use Rattle.frontier_core.specs.Plans.{policy}
use Rattle.frontier_core.specs.Routes.{Policy, Answers, HasTooMany}
use Rattle.frontier_core.proofs.Runs.{closed_replay}
use Rattle.frontier_core.specs.Tables.{Text, keys, IsOnce}
use Rattle.frontier_core.specs.declared.event.Cause.{Cause}
use Rattle.frontier_core.specs.declared.event.Cause.TheVariants as why
use Rattle.frontier_core.specs.declared.event.Event.{Event}
use Rattle.harvest.specs.Harvests.{Harvested}
use Rattle.harvest.specs.Pages.{IsBodyOf}
use Rattle.workers.proofs.FoundLaws.{page_among, rules_among, made_once, are_asked, stopped_once}
use Rattle.workers.specs.Crews.{AreLater}
use Rattle.workers.specs.Found.{AreMadeOnce}
use Rattle.workers.specs.OneWorker.{AreByCrew}
use Rattle.workers.specs.Quotas.{IsPassed, KeepsTo}
use Rattle.workers.specs.Takers.{AreOwn}
use Rattle.workers.specs.Retrieval.{IsRetrieved, IsPartRetrieved, IsStopped}
use Rattle.workers.specs.Sites.{IsCompleteFor}
use Rattle.workers.specs.declared.retrieval.Halt.{Halt}
use Rattle.local_tree.specs.Folders.{Holding}
use Rattle.local_tree.specs.Changes.{IsShelvedAs, IsHalfShelvedAs}
use Rattle.local_tree.specs.Shelves.{IsShelved, IsHalfShelved}
use Rattle.report.specs.Entries.{harvest_lines_of}
use Rattle.report.specs.Named.{names_in}
use Rattle.report.specs.Report.{Line, report_text}
use Rattle.report.proofs.NamedLaws.{names_of_lines, pages_of_lines}
use Rattle.retriever.specs.Found.{Crew, crew_of, MaySay, MaySayRules, asks_of, IsFound, IsFrontFound, IsPartFound, IsReportFound, EndsFound, Finds, Outside, LiveEnd, Finished, Torn, Unchanged, IsPutAt, IsTornAt, live_text, live_status, torn_line, unchanged_line}
use Rattle.retriever.specs.Live.{AreOfCrew, IsFrontLive, IsReportLive, IsRetrievedLive, IsStoppedLive, EndsLive, LiveRun}
use Rattle.retriever.specs.Mirrored.{IsPutAs, IsHalfPutAs, kept_as_named, kept_by, links_become}
use Rattle.retriever.specs.Parts.{shown_of}
use Rattle.run_mirror.specs.Mirrors.{Kept}
use Rattle.retriever.specs.Retrieved.{Retrieved, Stopped}
use Rattle.retriever.specs.Keeping.{Keeping, kinds_of}
use Rattle.retriever.specs.Site.{AreNamesOf}
use Rattle.retriever.specs.inner.Parts.{IsRead, IsWrittenAs, last_status}
use Rattle.retriever.specs.inner.Puts.{IsHarvestPut, IsPutOf, IsStopPut}
use Rattle.report.specs.Trace.{trace_text}
use Rattle.retriever.proofs.FoundLaws.{are_lines, records_of}
use Rattle.retriever.proofs.FrontLaws.{are_front_lines}
use Rattle.retriever.proofs.DeliveryLaws.{told_delivered}
use Rattle.retriever.proofs.EndLaws.{are_named, names_count, none_shown, status_of}

-- what is complete by its own record is complete for that
complete_for : (p : Policy) (s : State) → IsComplete p s → IsCompleteFor p (answers s) s
complete_for p s complete = record {
  candidates = complete.candidates;
  depths = complete.depths;
  wanted = complete.wanted;
  needed = complete.needed;
  outcomes = λ u x is. is;
  rules = λ o rules is. is;
}

-- ---- a harvest

abbrev retrieved : {F B : Type 0} (crew : Crew F B) (plan : Plan) (naming : PageNames) (h : Harvested B) (names : List (List ℕ)) → IsRetrieved (MaySay crew) (MaySayRules crew) plan (asks_of crew) h → IsRead h
    → AreNamesOf naming h.kept (kinds_of crew.keeps.kind_of h.bodies) names → AreOfCrew crew h.trace → IsRetrievedLive crew plan naming h.trace (harvest_lines_of h names) h.bodies
retrieved crew plan naming h names is read given by =
    let sound = subst (λ (o : Option Plan). IfSome o (λ plan. IsSound (policy plan) h.state)) is.follows read.3 in
    let long : length names ≡ length h.kept = names_count crew.keeps.kind_of naming h names given in
    record {
      state = h.state;
      replay = is.replay;
      by = by;
      quiet = is.quiet;
      found = record {
        asked = are_asked (MaySay crew) (MaySayRules crew) plan (asks_of crew) h.state is.once is.recorded is.complete is.told;
        reported = are_lines (policy plan) (answers h.state) h names read.0 read.1 sound.addresses sound.few (complete_for (policy plan) h.state is.complete) is.quiet;
        named = are_named crew.keeps.kind_of plan naming h names read.0 read.1 read.2 is.follows sound.addresses given;
        kept = subst (λ (pages : List Text). AllZip (IsBodyOf (MaySay crew) (answers h.state)) pages h.bodies) (sym (pages_of_lines h names read.0 read.1 read.2 long)) is.bodies;
      };
    }

-- what one knows of the part of a retrieval that stopped
part_found : {F B : Type 0} (crew : Crew F B) (plan : Plan) (cause : Cause) (h : Harvested B) → IsPartRetrieved (MaySay crew) (MaySayRules crew) plan (asks_of crew) cause h
    → IsPartFound crew plan (answers h.state)
part_found crew plan cause h part = record {
  once = made_once (asks_of crew) part.once;
  wanted = λ u among. part.wanted u (page_among (asks_of crew) u among);
  needed = λ o among. part.needed o (rules_among (asks_of crew) o among);
  told = part.told;
}

-- a front that the quota ended
abbrev front : {F B : Type 0} (crew : Crew F B) (plan : Plan) (naming : PageNames) (h : Harvested B) (names : List (List ℕ)) → IsPartRetrieved (MaySay crew) (MaySayRules crew) plan (asks_of crew) why.Quota h → IsRead h
    → AreNamesOf naming h.kept (kinds_of crew.keeps.kind_of h.bodies) names → AreOfCrew crew h.trace → IsFrontLive crew plan naming h.trace (harvest_lines_of h names) h.bodies
front crew plan naming h names part read given by =
    let sound = subst (λ (o : Option Plan). IfSome o (λ plan. IsSound (policy plan) h.state)) part.follows read.3 in
    let closed = closed_replay (policy plan) h.trace h.state part.replay in
    let long : length names ≡ length h.kept = names_count crew.keeps.kind_of naming h names given in
    record {
      state = h.state;
      replay = part.replay;
      by = by;
      stopped = part.stopped;
      recorded = part.recorded;
      found = record {
        part = part_found crew plan why.Quota h part;
        reported = are_front_lines (policy plan) h names read.0 read.1 sound closed;
        named = are_named crew.keeps.kind_of plan naming h names read.0 read.1 read.2 part.follows sound.addresses given;
        kept = subst (λ (pages : List Text). AllZip (IsBodyOf (MaySay crew) (answers h.state)) pages h.bodies) (sym (pages_of_lines h names read.0 read.1 read.2 long)) part.bodies;
      };
    }

-- the names in the lines of a harvest are those that were given
given : {B : Type 0} (kind_of : B → BodyKind) (naming : PageNames) (h : Harvested B) (names : List (List ℕ)) → IsRead h → AreNamesOf naming h.kept (kinds_of kind_of h.bodies) names
    → names ≡ names_in (harvest_lines_of h names)
given kind_of naming h names read are = sym (names_of_lines h names read.0 read.1 read.2 (names_count kind_of naming h names are))

-- what was put of a harvest is what the lines say of it
module _ {B : Type 0} (keeps : Keeping B) (naming : PageNames) (h : Harvested B) (names : List (List ℕ)) (read : IsRead h) (are : AreNamesOf naming h.kept (kinds_of keeps.kind_of h.bodies) names) where
  kept_of_lines : kept_as_named h names ≡ kept_by (harvest_lines_of h names) h.records
  kept_of_lines =
      let lines = harvest_lines_of h names in
      let long : length names ≡ length h.kept = names_count keeps.kind_of naming h names are in
      ap (λ (ns : List (List ℕ)). kept_as_named h ns) (given keeps.kind_of naming h names read are)
      ∙ ap (λ (pages : List (List ℕ)). record { kept = pages; names = names_in lines; records = h.records }) (sym (pages_of_lines h names read.0 read.1 read.2 long))

  put_at : (converts all : Bool) (old new : Holding) → IsOnce (keys h.state.entries) → IsPutAs converts all keeps (kept_as_named h names) h.bodies old new → new.failed ≡ old.failed
      → IsPutAt converts all keeps (answers h.state) (harvest_lines_of h names) h.bodies old new
  put_at false false old new once put quiet = put
  put_at false true old new once put quiet =
      (subst (λ (ns : List (List ℕ)). IsShelved keeps.holds ns h.bodies old.files new.files) (given keeps.kind_of naming h names read are) put, quiet)
  put_at true all old new once put quiet =
      (h.records, records_of h read.1 once, subst (λ (k : Kept). IsShelvedAs (links_become k) all keeps.holds k.names h.bodies old new) kept_of_lines put, quiet)

  torn_at : (converts : Bool) (old new : Holding) (whole : ℕ) → IsOnce (keys h.state.entries) → IsHalfPutAs converts keeps (kept_as_named h names) h.bodies old new whole
      → IsTornAt converts keeps (answers h.state) (harvest_lines_of h names) h.bodies old new whole
  torn_at false old new whole once torn =
      subst (λ (ns : List (List ℕ)). IsHalfShelved keeps.holds ns h.bodies old new whole) (given keeps.kind_of naming h names read are) torn
  torn_at true old new whole once torn =
      (h.records, records_of h read.1 once, subst (λ (k : Kept). IsHalfShelvedAs (links_become k) keeps.holds k.names h.bodies old new whole) kept_of_lines torn)

-- no address is held twice
once_held : {B : Type 0} (plan : Plan) (h : Harvested B) → IsRead h → h.plan ≡ Some plan → IsOnce (keys h.state.entries)
once_held plan h read follows = (subst (λ (o : Option Plan). IfSome o (λ plan. IsSound (policy plan) h.state)) follows read.3).addresses

part_retrieved : {F B : Type 0} (crew : Crew F B) (plan : Plan) (cause : Cause) (h : Harvested B) → IsPartRetrieved (MaySay crew) (MaySayRules crew) plan (asks_of crew) cause h
    → (cause ≡ why.Full → HasTooMany (policy plan) (answers h.state)) → AreOfCrew crew h.trace → IsStoppedLive crew plan cause h.trace
part_retrieved crew plan cause h part many by = record {
  state = h.state;
  replay = part.replay;
  by = by;
  stopped = part.stopped;
  recorded = part.recorded;
  found = part_found crew plan cause h part;
  full = many;
}

-- ---- an end

module _ {F B : Type 0} (crew : Crew F B) (order : Order) (old new : Holding) (IsWritten : List ℕ → ℕ → Type 0) where
  -- an end, with what is shown, and its text is written
  abbrev pub EndsWritten : Type 0
  EndsWritten = (shown : List Event) × (ending : LiveEnd) × EndsLive crew order old new shown ending × IsWritten (trace_text shown ++ live_text ending) (live_status ending)

  -- a harvest of which a report with any names is known to be so
  ended : (h : Harvested B) → AreMadeOnce (asks_of crew) → h.plan ≡ Some order.plan
      → ((names : List (List ℕ)) → IsRead h → AreNamesOf order.names h.kept (kinds_of crew.keeps.kind_of h.bodies) names → IsReportLive crew order (answers h.state) h.trace (harvest_lines_of h names) h.bodies)
      → IsHarvestPut order.converts crew.keeps IsWritten order.names order.trace h old new → EndsWritten
  ended h once follows live (inl (same, told)) = ([], Finished (Stopped why.Memory), (once, inl refl, inl same), told)
  ended h once follows live (inr (read, names, naming, inl (true, put, quiet, told))) =
      let lines = harvest_lines_of h names in (
        shown_of order.trace h.trace,
        Finished (Retrieved lines),
        (
          h.trace,
          answers h.state,
          h.bodies,
          live names read naming,
          refl,
          put_at crew.keeps order.names h names read naming order.converts true old new (once_held order.plan h read follows) put quiet,
        ),
        subst (λ (wanted : ℕ). IsWritten (trace_text (shown_of order.trace h.trace) ++ report_text lines) wanted) (status_of order h names read follows) told,
      )
  ended h once follows live (inr (read, names, naming, inl (false, put, quiet, told))) =
      let lines = harvest_lines_of h names in (
        shown_of order.trace h.trace,
        Unchanged lines,
        (
          h.trace,
          answers h.state,
          h.bodies,
          live names read naming,
          refl,
          put_at crew.keeps order.names h names read naming order.converts false old new (once_held order.plan h read follows) put quiet,
        ),
        subst (λ (text : List ℕ). IsWritten text 3) (append_assoc (trace_text (shown_of order.trace h.trace)) (report_text lines) unchanged_line) told,
      )
  ended h once follows live (inr (read, names, naming, inr (whole, torn, inl told))) =
      let lines = harvest_lines_of h names in (
        shown_of order.trace h.trace,
        Torn lines whole,
        (
          h.trace,
          answers h.state,
          h.bodies,
          live names read naming,
          refl,
          torn_at crew.keeps order.names h names read naming order.converts old new whole (once_held order.plan h read follows) torn,
        ),
        subst (λ (text : List ℕ). IsWritten text 3) (append_assoc (trace_text (shown_of order.trace h.trace)) (report_text lines) (torn_line whole)) told,
      )
  ended h once follows live (inr (read, names, naming, inr (whole, torn, inr told))) = (
    [],
    Finished (Stopped why.Memory),
    (
      once,
      inl refl,
      inr (
        h.trace,
        answers h.state,
        harvest_lines_of h names,
        h.bodies,
        whole,
        live names read naming,
        torn_at crew.keeps order.names h names read naming order.converts old new whole (once_held order.plan h read follows) torn,
      ),
    ),
    told,
  )

  -- a stop whose trace there was memory for
  part_stopped : (cause : Cause) (h : Harvested B) → IsStopped (MaySay crew) (MaySayRules crew) order.plan (asks_of crew) cause h → (cause ≡ why.Full → HasTooMany (policy order.plan) (answers h.state))
      → AreOfCrew crew h.trace → (shown_of order.trace h.trace ≡ []) ⊎ ((events : List Event) × IsStoppedLive crew order.plan cause events × (shown_of order.trace h.trace ≡ shown_of order.trace events))
  part_stopped cause h (inl part) many by = inr (h.trace, part_retrieved crew order.plan cause h part many by, refl)
  part_stopped cause h (inr empty) many by = inl (none_shown order.trace h.trace empty.trace)

  -- a front, or nothing because memory ran out: which is no end for the quota
  fronted : (h : Harvested B) → IsStopped (MaySay crew) (MaySayRules crew) order.plan (asks_of crew) why.Quota h → IsPassed order.quota (sum_by crew.keeps.len_of h.bodies)
      → AreOfCrew crew h.trace → IsHarvestPut order.converts crew.keeps IsWritten order.names order.trace h old new → EndsWritten
  fronted h (inl part) passed by put =
      ended h (made_once (asks_of crew) part.once) part.follows (λ names read naming. inr (passed, front crew order.plan order.names h names part read naming by, refl)) put
  fronted h (inr empty) passed by put = (let memory : why.Quota ≡ why.Memory = empty.memory in cc)

  stopped : (cause : Cause) (h : Harvested B) → (cause ≢ why.Mismatch → IsStopped (MaySay crew) (MaySayRules crew) order.plan (asks_of crew) cause h) → (cause ≡ why.Full → HasTooMany (policy order.plan) (answers h.state))
      → (length crew.first ≡ 1 → cause ≢ why.Mismatch) → (cause ≡ why.Quota → IsPassed order.quota (sum_by crew.keeps.len_of h.bodies)) → (cause ≢ why.Mismatch → AreOfCrew crew h.trace)
      → IsStopPut order.converts crew.keeps IsWritten order.names order.trace cause h old new → EndsWritten
  stopped why.Full h stop many one passed by (same, inl told) =
      elim (stop (λ is. cc)) [
        | inl part ↦ (shown_of order.trace h.trace, Finished (Stopped why.Full), (h.trace, part_retrieved crew order.plan why.Full h part many (by (λ is. cc)), refl, same), told)
        | inr empty ↦ (let memory = empty.memory in cc)
      ]
  stopped why.Full h stop many one passed by (same, inr told) =
      ([], Finished (Stopped why.Memory), (stopped_once (MaySay crew) (MaySayRules crew) order.plan (asks_of crew) why.Full h (stop (λ is. cc)), inl refl, inl same), told)
  stopped why.Memory h stop many one passed by (same, inl told) = (
    shown_of order.trace h.trace,
    Finished (Stopped why.Memory),
    (stopped_once (MaySay crew) (MaySayRules crew) order.plan (asks_of crew) why.Memory h (stop (λ is. cc)), part_stopped why.Memory h (stop (λ is. cc)) many (by (λ is. cc)), inl same),
    told,
  )
  stopped why.Memory h stop many one passed by (same, inr told) =
      ([], Finished (Stopped why.Memory), (stopped_once (MaySay crew) (MaySayRules crew) order.plan (asks_of crew) why.Memory h (stop (λ is. cc)), inl refl, inl same), told)
  stopped why.Mismatch h stop many one passed by (same, inl told) = ([], Finished (Stopped why.Mismatch), ((λ is. one is refl), refl, same), told)
  stopped why.Mismatch h stop many one passed by (same, inr told) = ([], Finished (Stopped why.Mismatch), ((λ is. one is refl), refl, same), told)
  stopped why.Quota h stop many one passed by put = fronted h (stop (λ is. cc)) (passed refl) (by (λ is. cc)) put

-- ---- a crew

module _ {F B : Type 0} (crew : Crew F B) where
  -- what is put and written of what a crew retrieved is an end, by what is known of its fetchers
  pub crew_ends : (order : Order) (r : Result (Harvested B) (Halt B)) (old new : Holding) (IsWritten : List ℕ → ℕ → Type 0) → IfOk r (IsRetrieved (MaySay crew) (MaySayRules crew) order.plan (asks_of crew))
      → IfErr r (λ halt. halt.cause ≢ why.Mismatch → IsStopped (MaySay crew) (MaySayRules crew) order.plan (asks_of crew) halt.cause halt.harvest)
      → IfErr r (λ halt. halt.cause ≡ why.Full → HasTooMany (policy order.plan) (answers halt.harvest.state) × IsOverfull (policy order.plan) halt.harvest.state)
      → (length crew.first ≡ 1 → IfErr r (λ halt. halt.cause ≢ why.Mismatch))
      → IfOk r (λ h. AreOfCrew crew h.trace) × IfErr r (λ halt. halt.cause ≢ why.Mismatch → AreOfCrew crew halt.harvest.trace)
      → KeepsTo order.quota crew.keeps.len_of r
      → IsPutOf order.converts crew.keeps IsWritten order.names order.trace r old new → EndsWritten crew order old new IsWritten
  crew_ends order (Ok h) old new IsWritten is stop full one by keeps put =
      ended crew order old new IsWritten h (made_once (asks_of crew) is.once) is.follows
      (λ names read naming. inl (keeps.within, retrieved crew order.plan order.names h names is read naming by.0, refl)) put
  crew_ends order (Err halt) old new IsWritten is stop full one by keeps put =
      stopped crew order old new IsWritten halt.cause halt.harvest stop (λ why. (full why).0) one keeps.beyond by.1 put

  -- what two clauses say of a crew's trace is what one says
  pub of_crew : (r : Result (Harvested B) (Halt B)) (count : ℕ) → count ≡ length crew.first
      → IfOk r (λ h. AreByCrew count h.trace) × IfErr r (λ halt. halt.cause ≢ why.Mismatch → AreByCrew count halt.harvest.trace)
      → IfOk r (λ h. AreOwn crew.means 0 crew.first crew.left h.trace)
      × IfErr r (λ halt. halt.cause ≢ why.Mismatch → AreOwn crew.means 0 crew.first crew.left halt.harvest.trace)
      → IfOk r (λ h. AreOfCrew crew h.trace) × IfErr r (λ halt. halt.cause ≢ why.Mismatch → AreOfCrew crew halt.harvest.trace)
  of_crew (Ok h) count long numbered own = ((subst (λ (n : ℕ). AreByCrew n h.trace) long numbered.0, own.0), tt)
  of_crew (Err halt) count long numbered own = (tt, λ other. (subst (λ (n : ℕ). AreByCrew n halt.harvest.trace) long (numbered.1 other), own.1 other))

-- an end whose text is delivered is a live retrieval
pub lives_from : {F B E : Type 0} (m : Meaning F B) (keeps : Keeping B) (order : Order) (olds news : List F) (before after : Outside) (told : Result ℕ E) (status : ℕ) → AreLater m olds news → status ≡ last_status told
    → EndsWritten (crew_of m keeps olds news) order before.folder after.folder (IsWrittenAs before.written after.written told) → LiveRun m keeps order olds before after status
lives_from m keeps order olds news before after told status later same (shown, ending, ends, written) = record {
  left = news;
  later = later;
  shown = shown;
  ending = ending;
  ends = ends;
  written = told_delivered before.written after.written told status same _ _ written;
}

-- ---- what was found, apart from the events that led there

-- what a report says of events it says of what they found
found_report : {F B : Type 0} (crew : Crew F B) (order : Order) (m : Answers) (events : List Event) (lines : List Line) (bodies : List B) → IsReportLive crew order m events lines bodies
    → IsReportFound crew order m lines bodies
found_report crew order m events lines bodies (inl (within, r, is)) = inl (within, subst (λ (a : Answers). IsFound crew order.plan order.names a lines bodies) is r.found)
found_report crew order m events lines bodies (inr (passed, r, is)) = inr (passed, subst (λ (a : Answers). IsFrontFound crew order.plan order.names a lines bodies) is r.found)

-- what a live retrieval results in is what it found
pub found_end : {F B : Type 0} (crew : Crew F B) (order : Order) (old new : Holding) (shown : List Event) (ending : LiveEnd) → EndsLive crew order old new shown ending → EndsFound crew order old new ending
found_end crew order old new shown (Finished (Retrieved lines)) (events, m, bodies, r, is, whole) = (m, bodies, found_report crew order m events lines bodies r, whole)
found_end crew order old new shown (Torn lines whole) (events, m, bodies, r, is, torn) = (m, bodies, found_report crew order m events lines bodies r, torn)
found_end crew order old new shown (Unchanged lines) (events, m, bodies, r, is, put) = (m, bodies, found_report crew order m events lines bodies r, put)
found_end crew order old new shown (Finished (Stopped why.Full)) (events, h, is, same) = (answers h.state, h.found, h.full refl, same)
found_end crew order old new shown (Finished (Stopped why.Memory)) (once, told, inl same) = (once, inl same)
found_end crew order old new shown (Finished (Stopped why.Memory)) (once, told, inr (events, m, lines, bodies, whole, r, torn)) =
    (once, inr (m, lines, bodies, whole, found_report crew order m events lines bodies r, torn))
found_end crew order old new shown (Finished (Stopped why.Mismatch)) (many, none, same) = (many, same)
found_end crew order old new shown (Finished (Stopped why.Quota)) never = never

-- nothing is shown of a trace that isn't ordered
unshown : (with_trace : Bool) (shown events : List Event) → shown ≡ shown_of with_trace events → with_trace ≡ false → trace_text shown ≡ []
unshown with_trace shown events is off = ap trace_text (is ∙ ap (λ b. shown_of b events) off)

pub untraced_end : {F B : Type 0} (crew : Crew F B) (order : Order) (old new : Holding) (shown : List Event) (ending : LiveEnd) → EndsLive crew order old new shown ending → order.trace ≡ false
    → trace_text shown ≡ []
untraced_end crew order old new shown (Finished (Retrieved lines)) (events, m, bodies, r, is, whole) off = unshown order.trace shown events is off
untraced_end crew order old new shown (Torn lines whole) (events, m, bodies, r, is, torn) off = unshown order.trace shown events is off
untraced_end crew order old new shown (Unchanged lines) (events, m, bodies, r, is, put) off = unshown order.trace shown events is off
untraced_end crew order old new shown (Finished (Stopped why.Full)) (events, h, is, same) off = unshown order.trace shown events is off
untraced_end crew order old new shown (Finished (Stopped why.Memory)) (once, inl none, put) off = ap trace_text none
untraced_end crew order old new shown (Finished (Stopped why.Memory)) (once, inr (events, h, is), put) off = unshown order.trace shown events is off
untraced_end crew order old new shown (Finished (Stopped why.Mismatch)) (many, none, same) off = ap trace_text none
untraced_end crew order old new shown (Finished (Stopped why.Quota)) never off = absurd never

-- a live retrieval found what it results in
pub finds_of_lives : {F B : Type 0} (m : Meaning F B) (keeps : Keeping B) (order : Order) (fetchers : List F) (before after : Outside) (status : ℕ) → LiveRun m keeps order fetchers before after status
    → Finds m keeps order fetchers before after status
finds_of_lives m keeps order fetchers before after status lives =
    let crew = crew_of m keeps fetchers lives.left in
    record {
      left = lives.left;
      later = lives.later;
      ending = lives.ending;
      ends = found_end crew order before.folder after.folder lives.shown lives.ending lives.ends;
      trace = trace_text lives.shown;
      untraced = untraced_end crew order before.folder after.folder lives.shown lives.ending lives.ends;
      written = lives.written;
    }
