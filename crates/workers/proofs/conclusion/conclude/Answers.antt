use Rattle.std.proofs.Common.{map, ◌≡◌, ◌≢◌, ◌⊎◌, inl, inr, sym, ap, ◌∙◌, subst, List, Some, Err}
use Rattle.std.specs.Prelude.{All, IsOk, OnOk}
use Rattle.std.specs.List.{sum_by}
use Rattle.std.proofs.lemmas.List.Sorted.{All-permutation, IsPermutation-map, IsPermutation-sym}
use Rattle.frontier_core.specs.Machine.{answers, IsQuiet}
use Rattle.frontier_core.specs.Plans.{policy}
use Rattle.frontier_core.specs.Invariants.{IsComplete, IsOverfull}
use Rattle.frontier_core.specs.Routes.{HasTooMany}
use Rattle.workers.specs.declared.retrieval.Halt.{Halt}
use Rattle.frontier_core.specs.declared.event.Cause.TheVariants as why
use Rattle.frontier_core.specs.Tables.{IsOnce}
use Rattle.follow_filters.specs.declared.plan.Plan.{Plan}
use Rattle.workers.specs.declared.note.PageNote.{PageNote}
use Rattle.workers.specs.declared.note.RulesNote.{RulesNote}
use Rattle.harvest.specs.declared.page.KeptPage.{KeptPage}
use Rattle.workers.specs.inner.Concluded.{HasBody, IsConcluded, IsBare, IsBelied, IsMiscounted, IsUnexplained}
use Rattle.workers.specs.Quotas.{IsPassed, page_len}
use Rattle.workers.specs.OneWorker.{AreByCrew}
use Rattle.workers.specs.inner.Takers.{AreNotedBy}
use Rattle.harvest.specs.Gathered.{IsHarvestOf}
use Rattle.harvest.specs.Harvests.{Harvested}
use Rattle.workers.specs.inner.Turns.{IsNothing}
use Rattle.workers.proofs.ConclusionLaws.{once_permutation, kept_once, kept_is, if_ok, if_err, on_ok, on_err, by_nobody}
use Rattle.workers.proofs.QuotaLaws.{keeps_from, keeps_nothing, memory_not_quota, miscounted, quota_not_mismatch}
use Rattle.workers.proofs.TakerLaws.{noted_by_none}
use Rattle.workers.proofs.conclusion.conclude.Goals as goal

pub finish-requires-clause-once : goal.finish-requires-clause-once
finish-requires-clause-once g c =
    let borne = c.in-Ok.ensures.ok in
    subst (λ (pages : List (KeptPage g.row.B.Denot)). IsOnce (map (λ (page : KeptPage g.row.B.Denot). page.address) pages)) (sym borne.kept) (kept_once _ borne.agrees.once)

pub finish-requires-clause-kept : goal.finish-requires-clause-kept
finish-requires-clause-kept g c u =
    let borne = c.in-Ok.ensures.ok in
    let bodies : All (HasBody c.args.frontier.plan) borne.sorted =
    subst (λ (plan : Plan). All (HasBody plan) borne.sorted) (sym borne.follows) (All-permutation (HasBody c.args.plan.now) _ _ borne.moved c.requires) in
    rw borne.kept (kept_is c.args.frontier.plan c.args.frontier.state _ _ borne.agrees bodies u)

pub returns-in-Ok-clause-ok : goal.returns-in-Ok-clause-ok
returns-in-Ok-clause-ok g c =
    let borne = c.in-Ok.ensures.ok in
    let A : Harvested g.row.B.Denot → Type 0 = λ h. IsOk c.end_with-ended.result × IsHarvestOf c.args.frontier c.in-Ok.pages.items h in
    let B : Harvested g.row.B.Denot → Type 0 = λ h. IsConcluded c.args.plan.now c.args.frontier c.args.notes.pages.items c.args.notes.rules.items h
    × IsQuiet c.args.frontier.state × IsComplete (policy c.args.frontier.plan) c.args.frontier.state in
    let turn : (h : Harvested g.row.B.Denot) → A h → B h = λ h both.
    let left = on_ok c.end_with-ended.result _ c.end_with-ended.ensures.quiet both.0 in (
      record {
        sorted = borne.sorted;
        sorted_sets = borne.sorted_sets;
        moved = borne.moved;
        moved_sets = borne.moved_sets;
        follows = borne.follows;
        replay = borne.replay;
        agrees = borne.agrees;
        harvest = subst (λ (pages : List (KeptPage g.row.B.Denot)). IsHarvestOf c.args.frontier pages h) borne.kept both.1;
      },
      left.0,
      left.1,
    ) in
    if_ok c.finish.result A B turn c.finish.ensures.ok

pub returns-in-Ok-clause-err : goal.returns-in-Ok-clause-err
returns-in-Ok-clause-err g c =
    let borne = c.in-Ok.ensures.ok in
    let bare : (halt : Halt g.row.B.Denot) → IsNothing halt.cause halt.harvest → IsBare c.args.notes.pages.items c.args.notes.rules.items halt.cause halt.harvest = λ halt nothing. record {
      once = once_permutation _ _ (IsPermutation-sym _ _ (IsPermutation-map (λ (note : PageNote g.row.B.Denot). note.address) _ _ borne.moved)) borne.agrees.once;
      once_origins = once_permutation _ _ (IsPermutation-sym _ _ (IsPermutation-map (λ (note : RulesNote). note.origin) _ _ borne.moved_sets)) borne.agrees.once_origins;
      nothing = nothing;
    } in
    let A : Halt g.row.B.Denot → Type 0 = λ halt. IsNothing halt.cause halt.harvest ⊎ ((c.end_with-ended.result ≡ Err halt.cause) × IsHarvestOf c.args.frontier c.in-Ok.pages.items halt.harvest) in
    let B : Halt g.row.B.Denot → Type 0 = λ halt. halt.cause ≢ why.Mismatch → IsBare c.args.notes.pages.items c.args.notes.rules.items halt.cause halt.harvest
    ⊎ (IsConcluded c.args.plan.now c.args.frontier c.args.notes.pages.items c.args.notes.rules.items halt.harvest × (c.args.frontier.state.cause ≡ Some halt.cause)) in
    let turn : (halt : Halt g.row.B.Denot) → A halt → B halt = λ halt either other. elim either [
      | inl nothing ↦ inl (bare halt nothing)
      | inr both ↦ inr (
        record {
          sorted = borne.sorted;
          sorted_sets = borne.sorted_sets;
          moved = borne.moved;
          moved_sets = borne.moved_sets;
          follows = borne.follows;
          replay = borne.replay;
          agrees = borne.agrees;
          harvest = subst (λ (pages : List (KeptPage g.row.B.Denot)). IsHarvestOf c.args.frontier pages halt.harvest) borne.kept both.1;
        },
        on_err c.end_with-ended.result halt.cause (λ cause. cause ≢ why.Mismatch → c.args.frontier.state.cause ≡ Some cause) both.0 c.end_with-ended.ensures.stopped other,
      )
    ] in
    if_err c.finish.result A B turn c.finish.ensures.err

pub returns-in-Ok-clause-full : goal.returns-in-Ok-clause-full
returns-in-Ok-clause-full g c =
    let A : Halt g.row.B.Denot → Type 0 = λ halt. IsNothing halt.cause halt.harvest ⊎ ((c.end_with-ended.result ≡ Err halt.cause) × IsHarvestOf c.args.frontier c.in-Ok.pages.items halt.harvest) in
    let B : Halt g.row.B.Denot → Type 0 = λ halt. halt.cause ≡ why.Full → HasTooMany (policy c.args.frontier.plan) (answers c.args.frontier.state) × IsOverfull (policy c.args.frontier.plan) c.args.frontier.state in
    let turn : (halt : Halt g.row.B.Denot) → A halt → B halt = λ halt either is. elim either [
      | inl nothing ↦ (let other : why.Memory ≡ why.Full = sym nothing.memory ∙ is in cc)
      | inr both ↦ c.end_with-ended.ensures.full (both.0 ∙ ap (λ cause. Err cause) is)
    ] in
    if_err c.finish.result A B turn c.finish.ensures.err

pub returns-in-Err-clause-ok : goal.returns-in-Err-clause-ok
returns-in-Err-clause-ok g c = tt

pub returns-in-Err-clause-full : goal.returns-in-Err-clause-full
returns-in-Err-clause-full g c is = absurd (c.in-Err.ensures.full is)

pub returns-in-Err-clause-err : goal.returns-in-Err-clause-err
returns-in-Err-clause-err g c other = inl (c.in-Err.ensures.err other)

pub returns-in-Ok-clause-mismatch : goal.returns-in-Ok-clause-mismatch
returns-in-Ok-clause-mismatch g c =
    let A : Halt g.row.B.Denot → Type 0 = λ halt. IsNothing halt.cause halt.harvest ⊎ ((c.end_with-ended.result ≡ Err halt.cause) × IsHarvestOf c.args.frontier c.in-Ok.pages.items halt.harvest) in
    let B : Halt g.row.B.Denot → Type 0 = λ halt. halt.cause ≡ why.Mismatch → IsBelied c.args.plan.now c.args.workers c.args.frontier c.args.notes.pages.items c.args.notes.rules.items
    ⊎ (IsUnexplained c.args.frontier ⊎ IsMiscounted (g.Q.Quota.most c.args.quota.now) c.args.frontier (sum_by g.Q.Quota.len_of halt.harvest.bodies)) in
    let turn : (halt : Halt g.row.B.Denot) → A halt → B halt = λ halt either is. elim either [
      | inl nothing ↦ (let other : why.Memory ≡ why.Mismatch = sym nothing.memory ∙ is in cc)
      | inr both ↦ inr (miscounted (g.Q.Quota.most c.args.quota.now) g.Q.Quota.len_of c.args.frontier c.in-Ok.pages.items halt.harvest both.1
          (subst (λ (pages : List (KeptPage g.row.B.Denot)). IsUnexplained c.args.frontier ⊎ IsMiscounted (g.Q.Quota.most c.args.quota.now) c.args.frontier (sum_by (page_len g.Q.Quota.len_of) pages)) c.deref.ensures.value
          (c.end_with-ended.ensures.mismatch (both.0 ∙ ap (λ cause. Err cause) is))))
    ] in
    if_err c.finish.result A B turn c.finish.ensures.err

pub returns-in-Ok-clause-numbered : goal.returns-in-Ok-clause-numbered
returns-in-Ok-clause-numbered g c =
    let by_crew : (h : Harvested g.row.B.Denot) → IsHarvestOf c.args.frontier c.in-Ok.pages.items h → AreByCrew c.args.workers h.trace =
    λ h is. subst (λ trace. AreByCrew c.args.workers trace) (sym is.trace) c.in-Ok.ensures.numbered in
    let A : Halt g.row.B.Denot → Type 0 = λ halt. IsNothing halt.cause halt.harvest ⊎ ((c.end_with-ended.result ≡ Err halt.cause) × IsHarvestOf c.args.frontier c.in-Ok.pages.items halt.harvest) in
    let B : Halt g.row.B.Denot → Type 0 = λ halt. halt.cause ≢ why.Mismatch → AreByCrew c.args.workers halt.harvest.trace in
    let turn : (halt : Halt g.row.B.Denot) → A halt → B halt = λ halt either other. elim either [
      | inl nothing ↦ by_nobody c.args.workers halt.harvest.trace nothing.trace
      | inr both ↦ by_crew halt.harvest both.1
    ] in (
      if_ok c.finish.result (λ h. IsOk c.end_with-ended.result × IsHarvestOf c.args.frontier c.in-Ok.pages.items h) (λ h. AreByCrew c.args.workers h.trace) (λ h both. by_crew h both.1) c.finish.ensures.ok,
      if_err c.finish.result A B turn c.finish.ensures.err,
    )

pub returns-in-Err-clause-mismatch : goal.returns-in-Err-clause-mismatch
returns-in-Err-clause-mismatch g c is = inl (c.in-Err.ensures.mismatch is)

pub returns-in-Err-clause-numbered : goal.returns-in-Err-clause-numbered
returns-in-Err-clause-numbered g c = (tt, λ other. by_nobody c.args.workers _ (c.in-Err.ensures.err other).nothing.trace)

pub returns-in-Ok-clause-own : goal.returns-in-Ok-clause-own
returns-in-Ok-clause-own g c =
    let notes = c.args.notes.pages.items in
    let sets = c.args.notes.rules.items in
    let noted_by : (h : Harvested g.row.B.Denot) → IsHarvestOf c.args.frontier c.in-Ok.pages.items h → AreNotedBy notes sets h.trace =
    λ h is. subst (λ trace. AreNotedBy notes sets trace) (sym is.trace) c.in-Ok.ensures.own in
    let A : Halt g.row.B.Denot → Type 0 = λ halt. IsNothing halt.cause halt.harvest ⊎ ((c.end_with-ended.result ≡ Err halt.cause) × IsHarvestOf c.args.frontier c.in-Ok.pages.items halt.harvest) in
    let B : Halt g.row.B.Denot → Type 0 = λ halt. halt.cause ≢ why.Mismatch → AreNotedBy notes sets halt.harvest.trace in
    let turn : (halt : Halt g.row.B.Denot) → A halt → B halt = λ halt either other. elim either [
      | inl nothing ↦ noted_by_none notes sets halt.harvest.trace nothing.trace
      | inr both ↦ noted_by halt.harvest both.1
    ] in (
      if_ok c.finish.result (λ h. IsOk c.end_with-ended.result × IsHarvestOf c.args.frontier c.in-Ok.pages.items h) (λ h. AreNotedBy notes sets h.trace) (λ h both. noted_by h both.1) c.finish.ensures.ok,
      if_err c.finish.result A B turn c.finish.ensures.err,
    )

pub returns-in-Err-clause-own : goal.returns-in-Err-clause-own
returns-in-Err-clause-own g c = (tt, λ other. noted_by_none c.args.notes.pages.items c.args.notes.rules.items _ (c.in-Err.ensures.err other).nothing.trace)

pub returns-in-Ok-clause-quota : goal.returns-in-Ok-clause-quota
returns-in-Ok-clause-quota g c =
    let Q = g.Q.Quota in
    let ended = c.end_with-ended in
    keeps_from (Q.most c.args.quota.now) Q.len_of c.args.frontier c.in-Ok.pages.items ended.result c.finish.result
    (subst (λ (pages : List (KeptPage g.row.B.Denot)). OnOk ended.result (¬ IsPassed (Q.most c.args.quota.now) (sum_by (page_len Q.len_of) pages))) c.deref.ensures.value ended.ensures.within)
    (subst (λ (pages : List (KeptPage g.row.B.Denot)). ended.result ≡ Err why.Quota → IsPassed (Q.most c.args.quota.now) (sum_by (page_len Q.len_of) pages)) c.deref.ensures.value ended.ensures.beyond)
    c.finish.ensures.ok c.finish.ensures.err

pub returns-in-Err-clause-quota : goal.returns-in-Err-clause-quota
returns-in-Err-clause-quota g c =
    keeps_nothing (g.Q.Quota.most c.args.quota.now) g.Q.Quota.len_of c.in-Err.halt
    (λ is. memory_not_quota (sym (c.in-Err.ensures.err (λ other. quota_not_mismatch (sym is ∙ other))).nothing.memory ∙ is))
