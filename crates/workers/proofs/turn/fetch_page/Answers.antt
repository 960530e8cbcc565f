-- A permit that is given up was out.
use Rattle.std.proofs.Common.{◌≡◌, inl, refl, Bool, true, false, ◌&&◌, Option, Some, None, List, [], ◌∷◌, ◌++◌, sym, ◌∙◌, ap, arith}
use Rattle.std.proofs.lemmas.Grind.{common_steps}
use Rattle.std.specs.Prelude.{if◌then◌else◌}
use Rattle.fetcher.specs.declared.outcome.Outcome.{Outcome}
use Rattle.harvest.specs.Pages.{is_success}
use Rattle.frontier_core.specs.Tables.{Text}
use Rattle.workers.proofs.turn.fetch_page.Goals.{in-Some, in-None}
use Rattle.follow_filters.specs.Rules.{keeps_of}
use Rattle.follow_filters.specs.declared.plan.Plan.{Plan}
use Rattle.harvest.specs.declared.page.KeptPage.{KeptPage}
use Rattle.harvest.specs.inner.Pages.{kept_pages_of}
use Rattle.workers.specs.inner.Notes.{body_of}
use Rattle.std.proofs.lemmas.Bool.{false≢true}
use Rattle.workers.proofs.turn.fetch_page.Goals as goal

pub returns-in_default : goal.returns-in_default
returns-in_default g c = record {
  site = refl;
  ok = tt;
  asked = tt;
  err = (c.abandon.ensures.out c.requires, c.make_room.ensures.same);
  refused = inl refl;
  cause = refl;
}

pub returns-in_default-ask : goal.returns-in_default-ask
returns-in_default-ask g c = record {
  site = c.ask.ensures.site;
  ok = tt;
  asked = tt;
  err = (c.abandon-in_default-ask.ensures.out c.requires, c.make_room.ensures.same);
  refused = rw c.address-2.ensures at c.in_default-ask.ensures.refused;
  cause = refl;
}

pub unreachable-requires : goal.unreachable-requires
unreachable-requires g c = absurd (false≢true (c.in-Err.ensures.asked.1 c.requires))

-- which pages are kept more, by the body that is
kept_one : {B : Type 0} (plan : Plan) (u : Text) (x : Outcome) (body found : B) → body_of plan u x body ≡ Some found → kept_pages_of plan u x body ≡ record { address = u; body = found } ∷ []
kept_one {B = B} plan u x body found = go (keeps_of plan u && is_success x)
  where
    go : (b : Bool) → (if b then Some body else None) ≡ Some found → if◌then◌else◌ {A = List (KeptPage B)} b (record { address = u; body = body } ∷ []) [] ≡ record { address = u; body = found } ∷ []
    go true is = cc
    go false is = cc

kept_none : {B : Type 0} (plan : Plan) (u : Text) (x : Outcome) (body : B) → body_of plan u x body ≡ None → kept_pages_of plan u x body ≡ []
kept_none {B = B} plan u x body = go (keeps_of plan u && is_success x)
  where
    go : (b : Bool) → (if b then Some body else None) ≡ None → if◌then◌else◌ {A = List (KeptPage B)} b (record { address = u; body = body } ∷ []) [] ≡ []
    go true is = cc
    go false is = refl

pub returns-clause-ok : goal.returns-clause-ok
returns-clause-ok g c =
    let answer = c.in-Ok-ask.answer in
    let kept = rw (c.plan.ensures.plan, c.in-Ok.ensures.name, c.address.ensures, c.share_texts.ensures) at c.keep_body.ensures in (
      answer.outcome,
      answer.body,
      (rw c.address-2.ensures at c.in-Ok-ask.ensures.told),
      (rw c.share_texts.ensures at c.in-Ok-answer.ensures.ok),
      elim c.match-keep_body.branch [
        | in-Some w ↦ let one = kept_one c.args.frontier.now.plan c.args.permit.address answer.outcome answer.body w.in-Some.body (sym kept ∙ w.in-Some.is) in grind (arith, common_steps)
        | in-None w ↦ let none = kept_none c.args.frontier.now.plan c.args.permit.address answer.outcome answer.body (sym kept ∙ w.in-None.is) in grind (arith, common_steps)
      ],
    )
