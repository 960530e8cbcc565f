-- What a retrieval results in is what the whole site has, if it gives each address one outcome.
use Rattle.std.proofs.Common.{◌≡◌, ◌≢◌, ◌↔◌, ℕ, inl, inr, Bool, true, false, List, [], ◌∷◌, All, length, map, replicate, Option, Some, refl, sym, ap, ◌∙◌, subst}
use Rattle.std.specs.Prelude.{◌&&◌, Contains, IfSome, IfOk, IfErr, MatchOption, Result, Ok, Err, string_bytes}
use Rattle.std.specs.List.{AllZip}
use Rattle.std.proofs.lemmas.List.{length-map}
use Rattle.std.proofs.lemmas.List.Elements.{All-head, All-replicate, All-tail, Contains-get_or}
use Rattle.follow_filters.specs.declared.plan.Plan.{Plan}
use Rattle.options.specs.declared.naming.PageNames.{PageNames}
use Rattle.options.specs.declared.order.Order.{Order}
use Rattle.robots_rules.specs.Access.{RuleSetValue}
use Rattle.fetcher.specs.Sites.{SiteAnswers, GivesOutcome, GivesRules, bare_body}
use Rattle.fetcher.specs.declared.fetcher.Ask.{Ask}
use Rattle.fetcher.specs.declared.fetcher.Fetcher.{Ghosts as Meaning}
use Rattle.fetcher.specs.declared.outcome.Outcome.{Outcome}
use Rattle.frontier_core.specs.Invariants.{IsSound}
use Rattle.frontier_core.specs.Machine.{answers, IsQuiet}
use Rattle.frontier_core.specs.Plans.{policy}
use Rattle.frontier_core.specs.Routes.{Answers, HasTooMany}
use Rattle.frontier_core.specs.Tables.{Text, keys, IsOnce}
use Rattle.frontier_core.specs.declared.event.Cause.{Cause}
use Rattle.frontier_core.specs.declared.event.Cause.TheVariants as why
use Rattle.frontier_core.specs.declared.event.Event.{Event}
use Rattle.workers.specs.Asks.{IsOfSite}
use Rattle.site_records.specs.Records.{RecordedAnswers, GivesAnswer, RecordGivesRules}
use Rattle.harvest.specs.Gathered.{AreEntries, AreRecords, ArePages}
use Rattle.harvest.specs.Harvests.{Harvested}
use Rattle.harvest.specs.Pages.{IsBodyOf, IsKept}
use Rattle.workers.specs.OneWorker.{AreByCrew}
use Rattle.workers.specs.Retrieval.{IsRetrieved, IsPartRetrieved, IsStopped}
use Rattle.workers.specs.Sites.{Fits, IsCompleteFor}
use Rattle.kept_bodies.specs.declared.body_kind.BodyKind.{BodyKind}
use Rattle.local_names.proofs.EndingLaws.{length-ended_names}
use Rattle.local_names.specs.PlainNames.{plain_name_of}
use Rattle.local_names.specs.declared.rules.NameRules.{NameRules}
use Rattle.report.specs.Entries.{harvest_lines_of}
use Rattle.report.specs.ExitStatus.{exit_status, outcomes_in}
use Rattle.report.specs.Named.{named_pages}
use Rattle.report.proofs.NamedLaws.{names_of_lines, pages_of_lines, line_to_keep}
use Rattle.report.proofs.StatusLaws.{same_status}
use Rattle.workers.specs.Crews.{AllFit, SomeSays}
use Rattle.workers.specs.declared.retrieval.Halt.{Halt}
use Rattle.retriever.specs.Parts.{shown_of}
use Rattle.retriever.specs.inner.Parts.{HasKinds, IsOutputOf, IsRetrievalWritten, IsRead, is_borne_out}
use Rattle.retriever.specs.Retrieved.{IsPartOf, AreEventsOf, AreShown, HasStopped, Retrieved, Stopped, Finishes}
use Rattle.retriever.specs.declared.render.RunOutput.{RunOutput}
use Rattle.std.specs.declared.alloc.AllocError.{AllocError}
use Rattle.kept_bodies.specs.Bodies.{BodyValue}
use Rattle.retriever.specs.Keeping.{kind_in, kinds_of}
use Rattle.retriever.specs.Site.{AreNamed, AreNamesOf, kind_at, plain_names_by, whole_of, with_bare_bodies}
use Rattle.retriever.proofs.FoundLaws.{are_lines}

-- a map's site gives what its answers name
pub map_fits : (site : SiteAnswers) → Fits (GivesOutcome site) (GivesRules site) (whole_of (with_bare_bodies site))
map_fits site = record { outcomes = λ u x body says. ap Some (sym says.0); rules = λ o rules is. ap Some (sym is) }

-- with bodies of the kinds of outcomes that are given alone
pub map_kinds : (site : SiteAnswers) → HasKinds (GivesOutcome site) (with_bare_bodies site)
map_kinds site = λ u x body says. ap (λ (b : BodyValue). b.kind) (says.1 ∙ ap (λ (o : Outcome). bare_body o) says.0)

-- a recorded site gives what its answers name
pub record_fits : (site : RecordedAnswers) → Fits (GivesAnswer site) (RecordGivesRules site) (whole_of site)
record_fits site = record { outcomes = λ u x body says. ap Some (sym says.0); rules = λ o rules is. ap Some (sym is) }

-- with the bodies of its answers
pub record_kinds : (site : RecordedAnswers) → HasKinds (GivesAnswer site) site
record_kinds site = λ u x body says. ap (λ (b : BodyValue). b.kind) says.1

-- ---- kinds

-- what some fetcher of a crew may say has the kinds of the site that each has
pub crew_kinds : {F : Type 0} (m : Meaning F BodyValue) (site : RecordedAnswers) (fs gs : List F) → All (λ (f : F). HasKinds (m.says (m.site f)) site) fs → HasKinds (SomeSays m fs gs) site
crew_kinds m site [] gs have u x body said = absurd said
crew_kinds m site (f ∷ fs) [] have u x body said = absurd said
crew_kinds m site (f ∷ fs) (g ∷ gs) have u x body (inl said) = All-head (λ f. HasKinds (m.says (m.site f)) site) f fs have u x body said.1
crew_kinds m site (f ∷ fs) (g ∷ gs) have u x body (inr said) = crew_kinds m site fs gs (All-tail (λ f. HasKinds (m.says (m.site f)) site) f fs have) u x body said

-- copies have the kinds that the site has
pub copies_kinds : {F : Type 0} (m : Meaning F BodyValue) (site : RecordedAnswers) (one : F) (count : ℕ) (copies : List F) → copies ≡ replicate count one → HasKinds (m.says (m.site one)) site
    → All (λ (f : F). HasKinds (m.says (m.site f)) site) copies
copies_kinds {F = F} m site one count copies are has =
    subst (λ (fs : List F). All (λ (f : F). HasKinds (m.says (m.site f)) site) fs) (sym are) (All-replicate (λ (f : F). HasKinds (m.says (m.site f)) site) count one has)

-- the kinds of kept bodies are those that the site gives for their pages
kinds_told : (may_say : Text → Outcome → BodyValue → Type 0) (site : RecordedAnswers) (m : Answers) → HasKinds may_say site → (pages : List Text) (bodies : List BodyValue) → AllZip (IsBodyOf may_say m) pages bodies
    → kinds_of kind_in bodies ≡ map (kind_at site) pages
kinds_told may_say site m has [] [] are = refl
kinds_told may_say site m has [] (body ∷ bodies) are = absurd are
kinds_told may_say site m has (page ∷ pages) [] are = absurd are
kinds_told may_say site m has (page ∷ pages) (body ∷ bodies) ((x, is, said), are) =
    ap (λ (kind : BodyKind). kind ∷ kinds_of kind_in bodies) (has page x body said) ∙ ap (λ (kinds : List BodyKind). kind_at site page ∷ kinds) (kinds_told may_say site m has pages bodies are)

-- as many pages have plain names
pub plain_count : (h : Bool) (rules : NameRules) (pages : List Text) (kinds : List BodyKind) → length (plain_names_by h rules pages kinds) ≡ length pages
plain_count false rules pages kinds = length-map pages (plain_name_of rules)
plain_count true rules pages kinds = length-ended_names rules pages kinds

-- as many have names
pub names_count : {B : Type 0} (kind_of : B → BodyKind) (naming : PageNames) (h : Harvested B) (names : List (List ℕ)) → AreNamesOf naming h.kept (kinds_of kind_of h.bodies) names → length names ≡ length h.kept
names_count kind_of naming h names given = given.count ∙ plain_count naming.has_endings naming.rules h.kept (kinds_of kind_of h.bodies)

told_part : (may_say : Text → Outcome → BodyValue → Type 0) (may_rule : Text → RuleSetValue → Type 0) (whole m : Answers) → Fits may_say may_rule whole → IsOfSite may_say may_rule m
    → IsPartOf m whole
told_part may_say may_rule whole m fits told = record {
  outcomes = λ u x is. (let (body, says) = told.outcomes u x is in fits.outcomes u x body says);
  rules = λ o rules is. fits.rules o rules (told.rules o rules is);
}

are_shown : (b : Bool) (AreSuch : List Event → Type 0) (trace : List Event) → AreSuch trace → AreShown b AreSuch (shown_of b trace)
are_shown true AreSuch trace such = such
are_shown false AreSuch trace such = refl

pub none_shown : (b : Bool) (trace : List Event) → trace ≡ [] → shown_of b trace ≡ []
none_shown true trace is = is
none_shown false trace is = refl

-- ---- a harvest

-- the lines of a harvest have the names of its kept pages
pub are_named : {B : Type 0} (kind_of : B → BodyKind) (plan : Plan) (naming : PageNames) (h : Harvested B) (names : List (List ℕ)) → AreEntries h → AreRecords h → ArePages h → h.plan ≡ Some plan → IsOnce (keys h.state.entries)
    → AreNamesOf naming h.kept (kinds_of kind_of h.bodies) names → AreNamed plan naming (kinds_of kind_of h.bodies) (harvest_lines_of h names)
are_named kind_of plan naming h names are records pages follows once given =
    let long : length names ≡ length h.kept = names_count kind_of naming h names given in
    let kinds = kinds_of kind_of h.bodies in
    let kept = subst (λ (o : Option Plan). MatchOption o (h.kept ≡ []) (λ plan. (u : Text) → Contains h.kept u ↔ IsKept plan (answers h.state) u)) follows pages.kept in
    record {
      kept = λ k d lt. line_to_keep plan h names are records once long kept _ (Contains-get_or (harvest_lines_of h names) k d lt);
      names = subst (λ (stated : List (List ℕ)). AreNamesOf naming (named_pages (harvest_lines_of h names)) kinds stated) (sym (names_of_lines h names are records pages long))
          (subst (λ (kept : List Text). AreNamesOf naming kept kinds names) (sym (pages_of_lines h names are records pages long)) given);
    }

pub retrieved : (order : Order) (may_say : Text → Outcome → BodyValue → Type 0) (may_rule : Text → RuleSetValue → Type 0) (site : RecordedAnswers) (asks : List Ask) (h : Harvested BodyValue) (names : List (List ℕ))
    → Fits may_say may_rule (whole_of site) → HasKinds may_say site → IsRetrieved may_say may_rule order.plan asks h → IsRead h → IsCompleteFor (policy order.plan) (whole_of site) h.state → AreByCrew order.workers h.trace
    → AreNamesOf order.names h.kept (kinds_of kind_in h.bodies) names → Finishes order site (shown_of order.trace h.trace) (Retrieved (harvest_lines_of h names))
retrieved order may_say may_rule site asks h names fits has is read complete by_one given =
    let whole = whole_of site in
    let lines = harvest_lines_of h names in
    let sound = subst (λ (o : Option Plan). IfSome o (λ plan. IsSound (policy plan) h.state)) is.follows read.3 in
    let stated = pages_of_lines h names read.0 read.1 read.2 (names_count kind_in order.names h names given) in
    let kinds = kinds_told may_say site (answers h.state) has h.kept h.bodies is.bodies ∙ ap (λ (pages : List Text). map (kind_at site) pages) (sym stated) in (
      are_lines (policy order.plan) whole h names read.0 read.1 sound.addresses sound.few complete is.quiet,
      subst (λ (kinds : List BodyKind). AreNamed order.plan order.names kinds lines) kinds (are_named kind_in order.plan order.names h names read.0 read.1 read.2 is.follows sound.addresses given),
      are_shown order.trace (AreEventsOf order.workers order.plan whole IsQuiet) h.trace (by_one, h.state, is.replay, told_part may_say may_rule whole (answers h.state) fits is.told, is.quiet),
    )

-- the exit status of a report is that of its lines
pub status_of : {B : Type 0} (order : Order) (h : Harvested B) (names : List (List ℕ)) → IsRead h → h.plan ≡ Some order.plan → exit_status (map (λ recorded. recorded.1) h.records) ≡ exit_status (outcomes_in (harvest_lines_of h names))
status_of order h names read follows =
    same_status h names read.0 read.1 (subst (λ (o : Option Plan). IfSome o (λ plan. IsSound (policy plan) h.state)) follows read.3).addresses

-- ---- a stop

stop_events : (order : Order) (may_say : Text → Outcome → BodyValue → Type 0) (may_rule : Text → RuleSetValue → Type 0) (whole : Answers) (asks : List Ask) (cause : Cause) (h : Harvested BodyValue)
    → Fits may_say may_rule whole → IsPartRetrieved may_say may_rule order.plan asks cause h → AreByCrew order.workers h.trace
    → AreShown order.trace (AreEventsOf order.workers order.plan whole (HasStopped cause)) (shown_of order.trace h.trace)
stop_events order may_say may_rule whole asks cause h fits part by_one =
    are_shown order.trace (AreEventsOf order.workers order.plan whole (HasStopped cause)) h.trace (by_one, h.state, part.replay, told_part may_say may_rule whole (answers h.state) fits part.told, part.stopped)

pub stopped : (order : Order) (may_say : Text → Outcome → BodyValue → Type 0) (may_rule : Text → RuleSetValue → Type 0) (site : RecordedAnswers) (asks : List Ask) (cause : Cause) (h : Harvested BodyValue)
    → Fits may_say may_rule (whole_of site) → (cause ≢ why.Mismatch → IsStopped may_say may_rule order.plan asks cause h)
    → (cause ≡ why.Full → HasTooMany (policy order.plan) (whole_of site)) → (order.workers ≡ 1 → cause ≢ why.Mismatch) → cause ≢ why.Quota → (cause ≢ why.Mismatch → AreByCrew order.workers h.trace)
    → Finishes order site (shown_of (is_borne_out cause && order.trace) h.trace) (Stopped cause)
stopped order may_say may_rule site asks why.Full h fits stop many never limitless by =
    elim (stop (λ is. cc)) [
      | inl part ↦ (many refl, stop_events order may_say may_rule (whole_of site) asks why.Full h fits part (by (λ is. cc)))
      | inr empty ↦ (let same = empty.memory in cc)
    ]
stopped order may_say may_rule site asks why.Memory h fits stop many never limitless by =
    elim (stop (λ is. cc)) [
      | inl part ↦ inr (stop_events order may_say may_rule (whole_of site) asks why.Memory h fits part (by (λ is. cc)))
      | inr empty ↦ inl (none_shown order.trace h.trace empty.trace)
    ]
stopped order may_say may_rule site asks why.Mismatch h fits stop many never limitless by = ((λ one. never one refl), refl)
stopped order may_say may_rule site asks why.Quota h fits stop many never limitless by = limitless refl

-- ---- either

-- what is written of either is written of how the retrieval of the site finishes
pub told_finishes : (order : Order) (may_say : Text → Outcome → BodyValue → Type 0) (may_rule : Text → RuleSetValue → Type 0) (site : RecordedAnswers) (asks : List Ask) (r : Result (Harvested BodyValue) (Halt BodyValue))
    (result : Result RunOutput AllocError) → Fits may_say may_rule (whole_of site) → HasKinds may_say site → IfOk r (λ h. IsRetrieved may_say may_rule order.plan asks h)
    → IfOk r (λ h. IsCompleteFor (policy order.plan) (whole_of site) h.state)
    → IfErr r (λ halt. halt.cause ≢ why.Mismatch → IsStopped may_say may_rule order.plan asks halt.cause halt.harvest)
    → IfErr r (λ halt. halt.cause ≡ why.Full → HasTooMany (policy order.plan) (whole_of site)) → (order.workers ≡ 1 → IfErr r (λ halt. halt.cause ≢ why.Mismatch))
    → IfErr r (λ halt. halt.cause ≢ why.Quota)
    → IfOk r (λ h. AreByCrew order.workers h.trace) × IfErr r (λ halt. halt.cause ≢ why.Mismatch → AreByCrew order.workers halt.harvest.trace)
    → IfOk result (λ output. IsRetrievalWritten order.names order.trace r (string_bytes output.text) output.status) → IfOk result (λ output. IsOutputOf order site (string_bytes output.text) output.status)
told_finishes order may_say may_rule site asks (Ok h) (Ok output) fits has is complete stop many never limitless by told =
    let (read, names, naming, text, status) = told in
    record {
      shown = shown_of order.trace h.trace;
      finish = Retrieved (harvest_lines_of h names);
      finishes = retrieved order may_say may_rule site asks h names fits has is read complete by.0 naming;
      text_is = text;
      status_is = status ∙ status_of order h names read is.follows;
    }
told_finishes order may_say may_rule site asks (Err halt) (Ok output) fits has is complete stop many never limitless by told =
    record {
      shown = shown_of (is_borne_out halt.cause && order.trace) halt.harvest.trace;
      finish = Stopped halt.cause;
      finishes = stopped order may_say may_rule site asks halt.cause halt.harvest fits stop many never limitless by.1;
      text_is = told.0;
      status_is = told.1;
    }
told_finishes order may_say may_rule site asks r (Err e) fits has is complete stop many never limitless by told = told

-- copies fit if the site does
pub copies_fit : {F : Type 0} (m : Meaning F BodyValue) (whole : Answers) (one : F) (count : ℕ) (copies : List F) → copies ≡ replicate count one → Fits (m.says (m.site one)) (m.rules (m.site one)) whole
    → AllFit m copies whole
copies_fit {F = F} m whole one count copies are fits =
    subst (λ (fs : List F). AllFit m fs whole) (sym are) (All-replicate (λ (copy : F). Fits (m.says (m.site copy)) (m.rules (m.site copy)) whole) count one fits)
