-- Each exit has requested the rules at most, and the note that is handed over says them.
use Rattle.std.proofs.Common.{◌∙◌, ◌++◌, ◌∷◌, [], sym, ap, subst, inl, inr}
use Rattle.std.proofs.lemmas.Result.{IfOk-from_err}
use Rattle.fetcher.specs.declared.fetcher.Ask.TheVariants as ask
use Rattle.answer_notes.specs.declared.noted.Noted.TheVariants.{Chain}
use Rattle.record_journal.specs.Handed.{Journaling}
use Rattle.record_journal.proofs.HandedLaws.{on_err, gained_over, half_handed, is_handed}
use Rattle.record_journal.proofs.journaled.Journaled.ask_robots_and_hand.Goals as goal

pub returns-in_err-hops : goal.returns-in_err-hops
returns-in_err-hops g c =
    let failed = c.from_residual.ensures.0 in
    let view = c.self.view_is in
    record {
      site = c.ask_hops.ensures.site ∙ ap (λ (f : Journaling _ _). g.F.Fetcher.site f.inner) view;
      links = c.ask_hops.ensures.links ∙ ap (λ (f : Journaling _ _). g.F.Receiving.links f.inner) view;
      is_recording = ap (λ (f : Journaling _ _). f.is_recording) view;
      told = IfOk-from_err _ _ failed;
      asked = IfOk-from_err _ _ failed;
      refused = on_err _ (gained_over (ask.Rules c.args.of.now) (ap (λ (f : Journaling _ _). g.F.Fetcher.log f.inner) view) c.in_err-hops.ensures.refused);
      handed = IfOk-from_err _ _ failed;
      unkept = on_err _ (ap (λ (f : Journaling _ _). f.kept) view);
      half = on_err _ (inl (ap (λ (f : Journaling _ _). f.journal) view));
    }

pub returns-in_err-rules : goal.returns-in_err-rules
returns-in_err-rules g c =
    let failed = c.from_residual-in_err-rules.ensures.0 in
    let view = c.self.view_is in
    record {
      site = c.ask_hops.ensures.site ∙ ap (λ (f : Journaling _ _). g.F.Fetcher.site f.inner) view;
      links = c.ask_hops.ensures.links ∙ ap (λ (f : Journaling _ _). g.F.Receiving.links f.inner) view;
      is_recording = ap (λ (f : Journaling _ _). f.is_recording) view;
      told = IfOk-from_err _ _ failed;
      asked = IfOk-from_err _ _ failed;
      refused = on_err _ (gained_over (ask.Rules c.args.of.now) (ap (λ (f : Journaling _ _). g.F.Fetcher.log f.inner) view) (inr c.in_ok-hops.ensures.asked));
      handed = IfOk-from_err _ _ failed;
      unkept = on_err _ (ap (λ (f : Journaling _ _). f.kept) view);
      half = on_err _ (inl (ap (λ (f : Journaling _ _). f.journal) view));
    }

pub returns-in_err-hand : goal.returns-in_err-hand
returns-in_err-hand g c =
    let failed = c.from_residual-in_err-hand.ensures.0 in
    let view = c.self.view_is in
    let inner = c.hand.ensures.inner in
    record {
      site = ap g.F.Fetcher.site inner ∙ c.ask_hops.ensures.site ∙ ap (λ (f : Journaling _ _). g.F.Fetcher.site f.inner) view;
      links = ap g.F.Receiving.links inner ∙ c.ask_hops.ensures.links ∙ ap (λ (f : Journaling _ _). g.F.Receiving.links f.inner) view;
      is_recording = c.hand.ensures.is_recording ∙ ap (λ (f : Journaling _ _). f.is_recording) view;
      told = IfOk-from_err _ _ failed;
      asked = IfOk-from_err _ _ failed;
      refused = on_err _ (gained_over (ask.Rules c.args.of.now) (ap (λ (f : Journaling _ _). g.F.Fetcher.log f.inner) view) (inr (ap g.F.Fetcher.log inner ∙ c.in_ok-hops.ensures.asked)));
      handed = IfOk-from_err _ _ failed;
      unkept = on_err _ (c.in_err-hand.ensures.err ∙ ap (λ (f : Journaling _ _). f.kept) view);
      half = on_err _ (inr (
        c.in_ok-hops.hops.hops,
        half_handed g.J.Journal.contents c.hand.new.self.journal (ap (λ (f : Journaling _ _). f.journal) view) (ap (λ of. Chain (record { of = of; hops = c.in_ok-hops.hops.hops })) c.in_ok-hops.ensures.of) c.in_err-hand.ensures.half,
      ));
    }

pub returns : goal.returns
returns g c =
    let view = c.self.view_is in
    let inner = c.hand.ensures.inner in
    let hops = c.in_ok-hops.hops in
    let rules = c.in_ok-rules.ensures in
    let site = ap (λ (f : Journaling _ _). g.F.Fetcher.site f.inner) view in
    record {
      site = ap g.F.Fetcher.site inner ∙ c.ask_hops.ensures.site ∙ site;
      links = ap g.F.Receiving.links inner ∙ c.ask_hops.ensures.links ∙ ap (λ (f : Journaling _ _). g.F.Receiving.links f.inner) view;
      is_recording = c.hand.ensures.is_recording ∙ ap (λ (f : Journaling _ _). f.is_recording) view;
      told = subst (λ s. g.F.Fetcher.rules s c.args.of.now c.in_ok-rules.rules) site (subst (g.F.Fetcher.rules (g.F.Fetcher.site c.self.inside.inner) c.args.of.now) (sym rules) c.in_ok-hops.ensures.told);
      asked = ap g.F.Fetcher.log inner ∙ c.in_ok-hops.ensures.asked ∙ ap (λ (f : Journaling _ _). g.F.Fetcher.log f.inner ++ ask.Rules c.args.of.now ∷ []) view;
      refused = tt;
      handed = (
        hops.hops,
        is_handed g.J.Journal.contents c.args.self.now c.hand.new.self (ap (λ (f : Journaling _ _). f.journal) view) (ap (λ (f : Journaling _ _). f.kept) view) (ap (λ of. Chain (record { of = of; hops = hops.hops })) c.in_ok-hops.ensures.of) c.in_ok-hand.ensures.ok,
        rules,
      );
      unkept = tt;
      half = tt;
    }
