-- One more try follows what was worth it, and what isn't is the last.
use Rattle.std.proofs.Common.{◌∙◌, ap, arith, subst, sym}
use Rattle.fetcher.specs.declared.fetcher.Ask.TheVariants as ask
use Rattle.answer_notes.specs.HopChains.{rules_of_hops}
use Rattle.http_fetcher.specs.Meanings.{MayRule}
use Rattle.pacing.specs.Retries.{retries_by}
use Rattle.html_links.specs.declared.rules.LinkRules.{LinkRules}
use Rattle.retries.specs.Keeping.{asks_of, lost_of}
use Rattle.retries.specs.Worth.{is_worth_hops}
use Rattle.retries.proofs.TryLaws.{ends, first, goes_on, stops}
use Rattle.retries.proofs.retrying.receive_hops.Goals as goal

pub loop-made-init : goal.loop-made-init
loop-made-init g c = record {
  site = c.in_ok-hops.ensures.links;
  links = c.in_ok-hops.ensures.links;
  of = c.in_ok-hops.ensures.of;
  told = c.in_ok-hops.ensures.may;
  tries = first asks_of (lost_of g.C.CallingConnect.lost) (λ f found. MayRule f.links c.args.of.now (rules_of_hops found.hops)) (λ found. is_worth_hops (retries_by c.args.retries.now) found.hops) (ask.Rules c.args.of.now) c.args.inner.now c.ask_hops.new.self c.in_ok-hops.hops (c.in_ok-hops.ensures.asked, c.in_ok-hops.ensures.may);
}

pub loop-made-preserved : goal.loop-made-preserved
loop-made-preserved g c =
    let inv = c.loop-made.invariant in
    record {
      site = c.in_ok-hops-2.ensures.links ∙ inv.site;
      links = c.in_ok-hops-2.ensures.links ∙ inv.links;
      of = c.in_ok-hops-2.ensures.of;
      told = subst (λ (l : LinkRules). MayRule l c.args.of.now (rules_of_hops c.in_ok-hops-2.hops.hops)) inv.links c.in_ok-hops-2.ensures.may;
      tries = goes_on asks_of (lost_of g.C.CallingConnect.lost) (λ f found. MayRule f.links c.args.of.now (rules_of_hops found.hops)) (λ found. is_worth_hops (retries_by c.args.retries.now) found.hops) (ask.Rules c.args.of.now) c.loop-made.made c.args.inner.now c.loop-made.inner c.ask_hops-in-loop-made.new.self c.loop-made.hops c.in_ok-hops-2.hops
          inv.tries (sym (c.is_worth_hops.ensures ∙ ap (is_worth_hops (retries_by c.args.retries.now) c.loop-made.hops.hops) c.loss.ensures) ∙ c.if-not-is_worth_hops.false) (c.in_ok-hops-2.ensures.asked, c.in_ok-hops-2.ensures.may);
    }

pub returns-then-not-is_worth_hops : goal.returns-then-not-is_worth_hops
returns-then-not-is_worth_hops g c = record {
  site = c.loop-made.invariant.site;
  links = c.loop-made.invariant.links;
  of = c.loop-made.invariant.of;
  told = c.loop-made.invariant.told;
  tries = stops asks_of (lost_of g.C.CallingConnect.lost) (λ f found. MayRule f.links c.args.of.now (rules_of_hops found.hops)) (λ found. is_worth_hops (retries_by c.args.retries.now) found.hops) (ask.Rules c.args.of.now) c.loop-made.made c.args.retries.now.most c.args.inner.now c.loop-made.inner c.loop-made.hops
      c.loop-made.invariant.tries (sym (c.is_worth_hops.ensures ∙ ap (is_worth_hops (retries_by c.args.retries.now) c.loop-made.hops.hops) c.loss.ensures) ∙ c.if-not-is_worth_hops.true) (omega (arith, c.loop-made-test.true));
}

pub returns : goal.returns
returns g c = record {
  site = c.loop-made.invariant.site;
  links = c.loop-made.invariant.links;
  of = c.loop-made.invariant.of;
  told = c.loop-made.invariant.told;
  tries = ends asks_of (lost_of g.C.CallingConnect.lost) (λ f found. MayRule f.links c.args.of.now (rules_of_hops found.hops)) (λ found. is_worth_hops (retries_by c.args.retries.now) found.hops) (ask.Rules c.args.of.now) c.loop-made.made c.args.retries.now.most c.args.inner.now c.loop-made.inner c.loop-made.hops
      c.loop-made.invariant.tries (omega (arith, c.loop-made-test.false, c.loop-made.auto.made-end));
}
