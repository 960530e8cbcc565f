-- One more try follows what was worth it, and what isn't is the last.
use Rattle.std.proofs.Common.{◌∙◌, ap, arith, subst, sym}
use Rattle.fetcher.specs.declared.fetcher.Ask.TheVariants as ask
use Rattle.answer_notes.specs.Received.{received_outcome, received_body}
use Rattle.http_fetcher.specs.Meanings.{MayAnswer}
use Rattle.pacing.specs.Retries.{retries_by}
use Rattle.html_links.specs.declared.rules.LinkRules.{LinkRules}
use Rattle.retries.specs.Keeping.{asks_of, lost_of}
use Rattle.retries.specs.Worth.{is_worth}
use Rattle.retries.proofs.TryLaws.{ends, first, goes_on, stops}
use Rattle.retries.proofs.retrying.receive.Goals as goal

pub loop-made-init : goal.loop-made-init
loop-made-init g c = record {
  site = c.in_ok-received.ensures.links;
  links = c.in_ok-received.ensures.links;
  told = c.in_ok-received.ensures.may;
  tries = first asks_of (lost_of g.C.CallingConnect.lost) (λ f t. MayAnswer f.links c.args.at.now (received_outcome f.links c.args.at.now t) (received_body t)) (is_worth (retries_by c.args.retries.now)) (ask.Page c.args.at.now) c.args.inner.now c.ask_received.new.self c.in_ok-received.received (c.in_ok-received.ensures.asked, c.in_ok-received.ensures.may);
}

pub loop-made-preserved : goal.loop-made-preserved
loop-made-preserved g c =
    let inv = c.loop-made.invariant in
    record {
      site = c.in_ok-received-2.ensures.links ∙ inv.site;
      links = c.in_ok-received-2.ensures.links ∙ inv.links;
      told = subst (λ (l : LinkRules). MayAnswer l c.args.at.now (received_outcome l c.args.at.now c.in_ok-received-2.received) (received_body c.in_ok-received-2.received)) inv.links c.in_ok-received-2.ensures.may;
      tries = goes_on asks_of (lost_of g.C.CallingConnect.lost) (λ f t. MayAnswer f.links c.args.at.now (received_outcome f.links c.args.at.now t) (received_body t)) (is_worth (retries_by c.args.retries.now)) (ask.Page c.args.at.now) c.loop-made.made c.args.inner.now c.loop-made.inner c.ask_received-in-loop-made.new.self c.loop-made.received c.in_ok-received-2.received
          inv.tries (sym (c.is_worth.ensures ∙ ap (is_worth (retries_by c.args.retries.now) c.loop-made.received) c.loss.ensures) ∙ c.if-not-is_worth.false) (c.in_ok-received-2.ensures.asked, c.in_ok-received-2.ensures.may);
    }

pub returns-then-not-is_worth : goal.returns-then-not-is_worth
returns-then-not-is_worth g c = record {
  site = c.loop-made.invariant.site;
  links = c.loop-made.invariant.links;
  told = c.loop-made.invariant.told;
  tries = stops asks_of (lost_of g.C.CallingConnect.lost) (λ f t. MayAnswer f.links c.args.at.now (received_outcome f.links c.args.at.now t) (received_body t)) (is_worth (retries_by c.args.retries.now)) (ask.Page c.args.at.now) c.loop-made.made c.args.retries.now.most c.args.inner.now c.loop-made.inner c.loop-made.received
      c.loop-made.invariant.tries (sym (c.is_worth.ensures ∙ ap (is_worth (retries_by c.args.retries.now) c.loop-made.received) c.loss.ensures) ∙ c.if-not-is_worth.true) (omega (arith, c.loop-made-test.true));
}

pub returns : goal.returns
returns g c = record {
  site = c.loop-made.invariant.site;
  links = c.loop-made.invariant.links;
  told = c.loop-made.invariant.told;
  tries = ends asks_of (lost_of g.C.CallingConnect.lost) (λ f t. MayAnswer f.links c.args.at.now (received_outcome f.links c.args.at.now t) (received_body t)) (is_worth (retries_by c.args.retries.now)) (ask.Page c.args.at.now) c.loop-made.made c.args.retries.now.most c.args.inner.now c.loop-made.inner c.loop-made.received
      c.loop-made.invariant.tries (omega (arith, c.loop-made-test.false, c.loop-made.auto.made-end));
}
