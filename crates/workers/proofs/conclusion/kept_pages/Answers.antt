use Rattle.std.proofs.Common.{◌≡◌, ◌∙◌, List, inl, inr, refl, subst, sym}
use Rattle.std.specs.Prelude.{IsPermutation}
use Rattle.std.proofs.lemmas.Bool.{false≢true}
use Rattle.std.proofs.lemmas.List.Sorted.{IsPermutation-map, IsPermutation-sym}
use Rattle.frontier_core.specs.declared.event.Event.{Event}
use Rattle.frontier_core.specs.declared.event.Cause.TheVariants as why
use Rattle.workers.specs.declared.note.PageNote.{PageNote}
use Rattle.workers.specs.declared.note.RulesNote.{RulesNote}
use Rattle.workers.specs.OneWorker.{AreByCrew}
use Rattle.workers.specs.inner.Notes.{addresses, origins}
use Rattle.workers.specs.inner.Takers.{AreNotedBy}
use Rattle.workers.proofs.ConclusionLaws.{once_permutation, agrees_moved, not_full}
use Rattle.workers.proofs.TakerLaws.{all_moved_by}
use Rattle.workers.proofs.conclusion.kept_pages.Goals as goal

pub returns : goal.returns
returns g c =
    let agrees = c.if-not-agree.ensures.agrees.0 refl in
    record {
      ok = tt;
      err = λ _. record {
        once = once_permutation _ _ (IsPermutation-sym _ _ (IsPermutation-map (λ (note : PageNote g.row.B.Denot). note.address) _ _ c.agree.ensures.pages)) agrees.once;
        once_origins = once_permutation _ _ (IsPermutation-sym _ _ (IsPermutation-map (λ (note : RulesNote). note.origin) _ _ c.agree.ensures.rules)) agrees.once_origins;
        nothing = c.empty.ensures;
      };
      full = λ is. (let other : why.Memory ≡ why.Full = sym c.empty.ensures.memory ∙ is in cc);
      numbered = tt;
      own = tt;
      mismatch = λ is. (let other : why.Memory ≡ why.Mismatch = sym c.empty.ensures.memory ∙ is in cc);
    }

pub returns-then-not-same : goal.returns-then-not-same
returns-then-not-same g c = record {
  ok = tt;
  err = λ other. absurd (other c.mismatch.ensures);
  full = not_full _ c.mismatch.ensures;
  numbered = tt;
  own = tt;
  mismatch = λ _. inl (λ same. false≢true (c.if-not-same.ensures.1 (c.plan.ensures.plan ∙ same)));
}

pub returns-then-not-are_by_crew : goal.returns-then-not-are_by_crew
returns-then-not-are_by_crew g c = record {
  ok = tt;
  err = λ other. absurd (other c.mismatch-then-not-are_by_crew.ensures);
  full = not_full _ c.mismatch-then-not-are_by_crew.ensures;
  numbered = tt;
  own = tt;
  mismatch = λ _. inr (inl (λ by_crew. false≢true (c.if-not-are_by_crew.ensures.1 (subst (λ (lines : List Event). AreByCrew c.args.workers lines) (sym c.trace.ensures.trace) by_crew))));
}

pub returns-then-not-agree : goal.returns-then-not-agree
returns-then-not-agree g c = record {
  ok = tt;
  err = λ other. absurd (other c.mismatch-then-not-agree.ensures);
  full = not_full _ c.mismatch-then-not-agree.ensures;
  numbered = tt;
  own = tt;
  mismatch = λ _. inr (inr (inl (λ agrees. false≢true (c.if-not-agree.ensures.agrees.1 (agrees_moved c.args.frontier.now.state _ _ _ _ c.agree.ensures.pages c.agree.ensures.rules agrees)))));
}

pub are_taken_by-requires : goal.are_taken_by-requires
are_taken_by-requires g c =
    let agrees = c.if-not-agree.ensures.agrees.0 refl in
    let moved : IsPermutation (addresses c.agree.new.notes.pages.items) (addresses c.args.notes.pages.items) =
    IsPermutation-sym _ _ (IsPermutation-map (λ (note : PageNote g.row.B.Denot). note.address) _ _ c.agree.ensures.pages) in
    let moved_sets : IsPermutation (origins c.agree.new.notes.rules.items) (origins c.args.notes.rules.items) =
    IsPermutation-sym _ _ (IsPermutation-map (λ (note : RulesNote). note.origin) _ _ c.agree.ensures.rules) in
    record {
      order = c.if-not-agree.ensures.order refl;
      followed = λ so. all_moved_by _ _ _ _ c.trace-3.result.now c.agree.ensures.pages c.agree.ensures.rules
          (subst (λ (lines : List Event). AreNotedBy c.args.notes.pages.items c.args.notes.rules.items lines) (c.trace-2.ensures.trace ∙ sym c.trace-3.ensures.trace)
          (c.are_followed-is_followed.ensures so (once_permutation _ _ moved agrees.once) (once_permutation _ _ moved_sets agrees.once_origins)));
    }

pub returns-then-not-are_taken_by : goal.returns-then-not-are_taken_by
returns-then-not-are_taken_by g c = record {
  ok = tt;
  err = λ other. absurd (other c.mismatch-then-not-are_taken_by.ensures);
  full = not_full _ c.mismatch-then-not-are_taken_by.ensures;
  numbered = tt;
  own = tt;
  mismatch = λ _. inr (inr (inr (λ noted. false≢true (c.if-not-are_taken_by.ensures.1 (subst (λ (lines : List Event). AreNotedBy c.agree.new.notes.pages.items c.agree.new.notes.rules.items lines) (sym c.trace-3.ensures.trace)
      (all_moved_by _ _ _ _ c.args.frontier.now.trace c.agree.ensures.pages c.agree.ensures.rules noted))))));
}

pub returns-in-Ok : goal.returns-in-Ok
returns-in-Ok g c = record {
  ok = record {
    sorted = c.agree.new.notes.pages.items;
    sorted_sets = c.agree.new.notes.rules.items;
    moved = c.agree.ensures.pages;
    moved_sets = c.agree.ensures.rules;
    follows = sym c.plan.ensures.plan ∙ c.if-not-same.ensures.0 refl;
    replay = c.plan.ensures.replay;
    agrees = c.if-not-agree.ensures.agrees.0 refl;
    kept = c.in-Ok.ensures;
  };
  err = tt;
  full = tt;
  numbered = subst (λ (lines : List Event). AreByCrew c.args.workers lines) c.trace.ensures.trace (c.if-not-are_by_crew.ensures.0 refl);
  own = all_moved_by _ _ _ _ c.args.frontier.now.trace (IsPermutation-sym _ _ c.agree.ensures.pages) (IsPermutation-sym _ _ c.agree.ensures.rules)
      (subst (λ (lines : List Event). AreNotedBy c.agree.new.notes.pages.items c.agree.new.notes.rules.items lines) c.trace-3.ensures.trace (c.if-not-are_taken_by.ensures.0 refl));
  mismatch = tt;
}
