-- What is asked is logged first; a site that answers from the record, or from the fetcher, is the same as before.
use Rattle.std.proofs.Common.{◌∙◌, sym, ap, subst, inl, inr}
use Rattle.std.proofs.lemmas.Result.{IfOk-from_err, IfOk-weaker}
use Rattle.fetcher.specs.Logs.{GainedAtMost}
use Rattle.fetcher.specs.declared.fetcher.Ask.TheVariants.{Rules}
use Rattle.site_records.specs.Resumption.{Resuming, RulesOr, resumption_of}
use Rattle.site_records.proofs.ResumptionLaws.{gained, spared_more, on_err, on_ok, before_stays, logged, same_site, rules_stated, rules_inner}
use Rattle.site_records.proofs.resumed.ResumedFetcher.ask_robots.Goals as goal

pub invariant_of-self : goal.invariant_of-self
invariant_of-self g c = c.self.invariant

pub returns-in_err-try_clone : goal.returns-in_err-try_clone
returns-in_err-try_clone g c = record {
  site = ap (resumption_of g.F.Fetcher.site g.F.Fetcher.log) c.self.view_is;
  told = IfOk-from_err _ _ c.from_residual.ensures.0;
  asked = IfOk-from_err _ _ c.from_residual.ensures.0;
  refused = on_err _ (inl (ap (λ (r : Resuming _). r.asks) c.self.view_is));
  once = inl (ap (λ (r : Resuming _). g.F.Fetcher.log r.inner) c.self.view_is);
}

pub invariant_of-self-in_err-push : goal.invariant_of-self-in_err-push
invariant_of-self-in_err-push g c = c.self.invariant

pub returns-in_err-push : goal.returns-in_err-push
returns-in_err-push g c = record {
  site = ap (resumption_of g.F.Fetcher.site g.F.Fetcher.log) c.self.view_is;
  told = IfOk-from_err _ _ c.from_residual-in_err-push.ensures.0;
  asked = IfOk-from_err _ _ c.from_residual-in_err-push.ensures.0;
  refused = on_err _ (inl (c.in_err-push.ensures.items ∙ ap (λ (r : Resuming _). r.asks) c.self.view_is));
  once = inl (ap (λ (r : Resuming _). g.F.Fetcher.log r.inner) c.self.view_is);
}

pub invariant_of-self-in_err-rules : goal.invariant_of-self-in_err-rules
invariant_of-self-in_err-rules g c = c.self.invariant

pub returns-in_err-rules : goal.returns-in_err-rules
returns-in_err-rules g c = record {
  site = ap (resumption_of g.F.Fetcher.site g.F.Fetcher.log) c.self.view_is;
  told = IfOk-from_err _ _ c.from_residual-in_err-rules.ensures.0;
  asked = IfOk-from_err _ _ c.from_residual-in_err-rules.ensures.0;
  refused = on_err _ (inr (logged c.self.view_is c.in_ok-push.ensures.items (ap Rules c.in_ok-try_clone.ensures)));
  once = inl (ap (λ (r : Resuming _). g.F.Fetcher.log r.inner) c.self.view_is);
}

pub invariant_of-self-in-Some : goal.invariant_of-self-in-Some
invariant_of-self-in-Some g c = c.self.invariant

pub returns-in-Some : goal.returns-in-Some
returns-in-Some g c = record {
  site = ap (resumption_of g.F.Fetcher.site g.F.Fetcher.log) c.self.view_is;
  told =
      let site = resumption_of g.F.Fetcher.site g.F.Fetcher.log (record { recorded = c.self.inside.recorded; inner = c.self.inside.inner; asks = c.self.inside.asks.items; since = c.self.inside.since }) in
      subst (λ (r : Resuming _). RulesOr g.F.Fetcher.rules (resumption_of g.F.Fetcher.site g.F.Fetcher.log r) c.args.of.now c.in-Some.rules) c.self.view_is
      (rules_stated g.F.Fetcher.rules site c.args.of.now _ (sym c.in_ok-rules.ensures ∙ c.in-Some.is));
  asked = logged c.self.view_is c.in_ok-push.ensures.items (ap Rules c.in_ok-try_clone.ensures);
  refused = tt;
  once = inl (ap (λ (r : Resuming _). g.F.Fetcher.log r.inner) c.self.view_is);
}

pub invariant_of-self-in-None : goal.invariant_of-self-in-None
invariant_of-self-in-None g c = spared_more _ c.self.invariant (sym c.in_ok-rules.ensures ∙ c.in-None.is) (gained _ c.ask_robots.result c.ask_robots.ensures.asked c.ask_robots.ensures.refused)

pub returns-in-None : goal.returns-in-None
returns-in-None g c = record {
  site = same_site g.F.Fetcher.site g.F.Fetcher.log (record { recorded = c.self.inside.recorded; inner = c.self.inside.inner; asks = c.self.inside.asks.items; since = c.self.inside.since })
      c.ask_robots.new.self c.push.new.self.items c.ask_robots.ensures.site
      (before_stays (Rules c.args.of.now) c.self.invariant.within (gained _ c.ask_robots.result c.ask_robots.ensures.asked c.ask_robots.ensures.refused))
      ∙ ap (resumption_of g.F.Fetcher.site g.F.Fetcher.log) c.self.view_is;
  told =
      let site = resumption_of g.F.Fetcher.site g.F.Fetcher.log (record { recorded = c.self.inside.recorded; inner = c.self.inside.inner; asks = c.self.inside.asks.items; since = c.self.inside.since }) in
      IfOk-weaker c.ask_robots.result _ _
      (λ a h. subst (λ (r : Resuming _). RulesOr g.F.Fetcher.rules (resumption_of g.F.Fetcher.site g.F.Fetcher.log r) c.args.of.now a) c.self.view_is
      (rules_inner g.F.Fetcher.rules site c.args.of.now _ (sym c.in_ok-rules.ensures ∙ c.in-None.is) h))
      c.ask_robots.ensures.told;
  asked = on_ok _ (logged c.self.view_is c.in_ok-push.ensures.items (ap Rules c.in_ok-try_clone.ensures));
  refused = on_err _ (inr (logged c.self.view_is c.in_ok-push.ensures.items (ap Rules c.in_ok-try_clone.ensures)));
  once = subst (λ (r : Resuming _). GainedAtMost (g.F.Fetcher.log r.inner) (g.F.Fetcher.log c.ask_robots.new.self) (Rules c.args.of.now)) c.self.view_is
      (gained _ c.ask_robots.result c.ask_robots.ensures.asked c.ask_robots.ensures.refused);
}
