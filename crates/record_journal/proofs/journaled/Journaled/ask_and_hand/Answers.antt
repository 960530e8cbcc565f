-- Each exit has requested the page at most, and the note that is handed over says the answer.
use Rattle.std.proofs.Common.{◌∙◌, ◌++◌, ◌∷◌, [], refl, ap, inl, inr}
use Rattle.std.proofs.lemmas.Result.{IfOk-from_err}
use Rattle.fetcher.specs.declared.fetcher.Ask.TheVariants as ask
use Rattle.answer_notes.specs.Received.{received_outcome}
use Rattle.answer_notes.specs.declared.noted.Noted.TheVariants.{Page}
use Rattle.record_journal.specs.Handed.{Journaling}
use Rattle.record_journal.proofs.HandedLaws.{on_err, gained_over, half_handed, is_handed, says_told}
use Rattle.record_journal.proofs.journaled.Journaled.ask_and_hand.Goals as goal

pub returns-in_err-name : goal.returns-in_err-name
returns-in_err-name g c =
    let failed = c.from_residual.ensures.0 in
    record {
      site = refl;
      links = refl;
      is_recording = refl;
      told = IfOk-from_err _ _ failed;
      asked = IfOk-from_err _ _ failed;
      refused = on_err _ (inl refl);
      handed = IfOk-from_err _ _ failed;
      unkept = on_err _ refl;
      half = on_err _ (inl refl);
    }

pub returns-in_err-received : goal.returns-in_err-received
returns-in_err-received g c =
    let failed = c.from_residual-in_err-received.ensures.0 in
    let view = c.self.view_is in
    record {
      site = c.ask_received.ensures.site ∙ ap (λ (f : Journaling _ _). g.F.Fetcher.site f.inner) view;
      links = c.ask_received.ensures.links ∙ ap (λ (f : Journaling _ _). g.F.Receiving.links f.inner) view;
      is_recording = ap (λ (f : Journaling _ _). f.is_recording) view;
      told = IfOk-from_err _ _ failed;
      asked = IfOk-from_err _ _ failed;
      refused = on_err _ (gained_over (ask.Page c.args.at.now) (ap (λ (f : Journaling _ _). g.F.Fetcher.log f.inner) view) c.in_err-received.ensures.refused);
      handed = IfOk-from_err _ _ failed;
      unkept = on_err _ (ap (λ (f : Journaling _ _). f.kept) view);
      half = on_err _ (inl (ap (λ (f : Journaling _ _). f.journal) view));
    }

pub returns-in_err-answer : goal.returns-in_err-answer
returns-in_err-answer g c =
    let failed = c.from_residual-in_err-answer.ensures.0 in
    let view = c.self.view_is in
    record {
      site = c.ask_received.ensures.site ∙ ap (λ (f : Journaling _ _). g.F.Fetcher.site f.inner) view;
      links = c.ask_received.ensures.links ∙ ap (λ (f : Journaling _ _). g.F.Receiving.links f.inner) view;
      is_recording = ap (λ (f : Journaling _ _). f.is_recording) view;
      told = IfOk-from_err _ _ failed;
      asked = IfOk-from_err _ _ failed;
      refused = on_err _ (gained_over (ask.Page c.args.at.now) (ap (λ (f : Journaling _ _). g.F.Fetcher.log f.inner) view) (inr c.in_ok-received.ensures.asked));
      handed = IfOk-from_err _ _ failed;
      unkept = on_err _ (ap (λ (f : Journaling _ _). f.kept) view);
      half = on_err _ (inl (ap (λ (f : Journaling _ _). f.journal) view));
    }

pub returns-in_err-hand : goal.returns-in_err-hand
returns-in_err-hand g c =
    let failed = c.from_residual-in_err-hand.ensures.0 in
    let view = c.self.view_is in
    let inner = c.hand.ensures.inner in
    record {
      site = ap g.F.Fetcher.site inner ∙ c.ask_received.ensures.site ∙ ap (λ (f : Journaling _ _). g.F.Fetcher.site f.inner) view;
      links = ap g.F.Receiving.links inner ∙ c.ask_received.ensures.links ∙ ap (λ (f : Journaling _ _). g.F.Receiving.links f.inner) view;
      is_recording = c.hand.ensures.is_recording ∙ ap (λ (f : Journaling _ _). f.is_recording) view;
      told = IfOk-from_err _ _ failed;
      asked = IfOk-from_err _ _ failed;
      refused = on_err _ (gained_over (ask.Page c.args.at.now) (ap (λ (f : Journaling _ _). g.F.Fetcher.log f.inner) view) (inr (ap g.F.Fetcher.log inner ∙ c.in_ok-received.ensures.asked)));
      handed = IfOk-from_err _ _ failed;
      unkept = on_err _ (c.in_err-hand.ensures.err ∙ ap (λ (f : Journaling _ _). f.kept) view);
      half = on_err _ (inr (
        c.in_ok-received.received,
        half_handed g.J.Journal.contents c.hand.new.self.journal (ap (λ (f : Journaling _ _). f.journal) view) (ap (λ at. Page at c.in_ok-received.received) c.in_ok-name.ensures) c.in_err-hand.ensures.half,
      ));
    }

pub returns : goal.returns
returns g c =
    let view = c.self.view_is in
    let inner = c.hand.ensures.inner in
    let told = c.in_ok-received.received in
    let answer = c.in_ok-answer.ensures in
    let site = ap (λ (f : Journaling _ _). g.F.Fetcher.site f.inner) view in
    let same = c.ask_received.ensures.links ∙ ap (λ (f : Journaling _ _). g.F.Receiving.links f.inner) view in
    let links = c.link_rules.ensures ∙ same in
    record {
      site = ap g.F.Fetcher.site inner ∙ c.ask_received.ensures.site ∙ site;
      links = ap g.F.Receiving.links inner ∙ same;
      is_recording = c.hand.ensures.is_recording ∙ ap (λ (f : Journaling _ _). f.is_recording) view;
      told = says_told g.F.Fetcher.says told c.in_ok-answer.answer site (c.link_rules.ensures ∙ c.ask_received.ensures.links) answer.outcome answer.body c.in_ok-received.ensures.told;
      asked = ap g.F.Fetcher.log inner ∙ c.in_ok-received.ensures.asked ∙ ap (λ (f : Journaling _ _). g.F.Fetcher.log f.inner ++ ask.Page c.args.at.now ∷ []) view;
      refused = tt;
      handed = (
        told,
        is_handed g.J.Journal.contents c.args.self.now c.hand.new.self (ap (λ (f : Journaling _ _). f.journal) view) (ap (λ (f : Journaling _ _). f.kept) view) (ap (λ at. Page at told) c.in_ok-name.ensures) c.in_ok-hand.ensures.ok,
        answer.outcome ∙ ap (λ r. received_outcome r c.args.at.now told) links,
        answer.body,
      );
      unkept = tt;
      half = tt;
    }
