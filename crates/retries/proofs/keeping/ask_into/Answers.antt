-- One more try follows what was worth it, and what isn't is the last.
use Rattle.std.proofs.Common.{◌∙◌, ap, arith, subst, sym}
use Rattle.fetcher.specs.declared.fetcher.Ask.TheVariants as ask
use Rattle.http_fetcher.specs.Fetching.{StandsForOne}
use Rattle.http_fetcher.specs.Meanings.{MayAnswerWithin}
use Rattle.pacing.specs.Retries.{retries_by}
use Rattle.response_reader.specs.Limits.{limited}
use Rattle.retries.specs.Keeping.{MayKeep, asks_of, is_worth_answer, lost_of}
use Rattle.retries.proofs.TryLaws.{ends, first, goes_on, stops}
use Rattle.retries.proofs.keeping.ask_into.Goals as goal
use Rattle.html_links.specs.declared.rules.LinkRules.{LinkRules}

pub loop-made-init : goal.loop-made-init
loop-made-init g c = record {
  links = c.in_ok-answer.ensures.links;
  sends = c.in_ok-answer.ensures.sends;
  told = c.in_ok-answer.ensures.may;
  tries = first asks_of (lost_of g.C.CallingConnect.lost) (MayKeep g.K.Keeper.holds (limited c.args.limits) c.args.at.now) (is_worth_answer (retries_by c.args.retries.now)) (ask.Page c.args.at.now) c.args.inner.now c.ask_into.new.self c.in_ok-answer.answer (c.in_ok-answer.ensures.asked, c.in_ok-answer.ensures.may);
}

pub loop-made-preserved : goal.loop-made-preserved
loop-made-preserved g c =
    let inv = c.loop-made.invariant in
    record {
      links = c.in_ok-answer-2.ensures.links ∙ inv.links;
      sends = c.in_ok-answer-2.ensures.sends ∙ inv.sends;
      told = subst (λ (links : LinkRules). StandsForOne g.K.Keeper.holds c.in_ok-answer-2.answer (λ real. MayAnswerWithin (limited c.args.limits) links c.args.at.now real.outcome real.body)) inv.links c.in_ok-answer-2.ensures.may;
      tries = goes_on asks_of (lost_of g.C.CallingConnect.lost) (MayKeep g.K.Keeper.holds (limited c.args.limits) c.args.at.now) (is_worth_answer (retries_by c.args.retries.now)) (ask.Page c.args.at.now) c.loop-made.made c.args.inner.now c.loop-made.inner c.ask_into-in-loop-made.new.self c.loop-made.answer c.in_ok-answer-2.answer
          inv.tries (sym (c.is_worth_outcome.ensures ∙ ap (is_worth_answer (retries_by c.args.retries.now) c.loop-made.answer) (c.loss.ensures ∙ ap g.C.CallingConnect.lost c.connect.ensures)) ∙ c.if-not-is_worth_outcome.false) (c.in_ok-answer-2.ensures.asked, c.in_ok-answer-2.ensures.may);
    }

pub returns-then-not-is_worth_outcome : goal.returns-then-not-is_worth_outcome
returns-then-not-is_worth_outcome g c = record {
  links = c.loop-made.invariant.links;
  sends = c.loop-made.invariant.sends;
  told = c.loop-made.invariant.told;
  tries = stops asks_of (lost_of g.C.CallingConnect.lost) (MayKeep g.K.Keeper.holds (limited c.args.limits) c.args.at.now) (is_worth_answer (retries_by c.args.retries.now)) (ask.Page c.args.at.now) c.loop-made.made c.args.retries.now.most c.args.inner.now c.loop-made.inner c.loop-made.answer
      c.loop-made.invariant.tries (sym (c.is_worth_outcome.ensures ∙ ap (is_worth_answer (retries_by c.args.retries.now) c.loop-made.answer) (c.loss.ensures ∙ ap g.C.CallingConnect.lost c.connect.ensures)) ∙ c.if-not-is_worth_outcome.true) (omega (arith, c.loop-made-test.true));
}

pub returns : goal.returns
returns g c = record {
  links = c.loop-made.invariant.links;
  sends = c.loop-made.invariant.sends;
  told = c.loop-made.invariant.told;
  tries = ends asks_of (lost_of g.C.CallingConnect.lost) (MayKeep g.K.Keeper.holds (limited c.args.limits) c.args.at.now) (is_worth_answer (retries_by c.args.retries.now)) (ask.Page c.args.at.now) c.loop-made.made c.args.retries.now.most c.args.inner.now c.loop-made.inner c.loop-made.answer
      c.loop-made.invariant.tries (omega (arith, c.loop-made-test.false, c.loop-made.auto.made-end));
}
