-- After the exchange the notes alone change.
use Rattle.std.proofs.Common.{◌≡◌, ◌∙◌, ◌≤◌, ◌+◌, ◌++◌, [], ◌∷◌, inl, refl, sym, ap, subst, le-add_right}
use Rattle.std.proofs.lemmas.Result.{err_from_is_err_and}
use Rattle.response_reader.specs.Wire.{counted}
use Rattle.address.specs.Address.{AddressText}
use Rattle.answer_notes.specs.Received.{received_outcome}
use Rattle.answer_notes.specs.declared.noted.Noted.TheVariants.{Page}
use Rattle.response_reader.specs.Limits.{standard}
use Rattle.http_fetcher.specs.Fetching.{Fetching, StandsBy}
use Rattle.http_fetcher.proofs.ReceivedLemmas.{told_by_answer}
use Rattle.http_fetcher.proofs.http_fetcher.HttpFetcher.ask_and_note.Goals as goal

pub returns-in_err-name : goal.returns-in_err-name
returns-in_err-name g c =
    let p = err_from_is_err_and c.from_residual.result c.from_residual.ensures.1 in
    rw p.1 (record {
      asks = refl;
      links = refl;
      keeps = refl;
      sends = refl;
      is_recording = refl;
      one = λ none. tt;
      most = le-add_right _ _;
      told = tt;
      stands = λ of wire stood. inl stood;
      noted = tt;
      unnoted = refl;
    })

pub returns-in_err-received : goal.returns-in_err-received
returns-in_err-received g c =
    let p = err_from_is_err_and c.from_residual-in_err-received.result c.from_residual-in_err-received.ensures.1 in
    let after = c.exchange.ensures in
    rw p.1 (record {
      asks = after.asks;
      links = after.links;
      keeps = after.keeps;
      sends = after.sends;
      is_recording = after.is_recording;
      one = λ none. tt;
      most = after.most;
      told = tt;
      stands = after.stands;
      noted = tt;
      unnoted = after.notes;
    })

pub returns-in_err-answer : goal.returns-in_err-answer
returns-in_err-answer g c =
    let p = err_from_is_err_and c.from_residual-in_err-answer.result c.from_residual-in_err-answer.ensures.1 in
    let after = c.in_ok-received.ensures in
    rw p.1 (record {
      asks = after.asks;
      links = after.links;
      keeps = after.keeps;
      sends = after.sends;
      is_recording = after.is_recording;
      one = λ none. tt;
      most = after.most;
      told = tt;
      stands = after.stands;
      noted = tt;
      unnoted = after.notes;
    })

pub returns-in_err-push : goal.returns-in_err-push
returns-in_err-push g c =
    let p = err_from_is_err_and c.from_residual-in_err-push.result c.from_residual-in_err-push.ensures.1 in
    let after = c.in_ok-received.ensures in
    rw p.1 (record {
      asks = ap (λ (f : Fetching _). f.asks) c.self.view_is ∙ after.asks;
      links = ap (λ (f : Fetching _). f.links) c.self.view_is ∙ after.links;
      keeps = ap (λ (f : Fetching _). f.keeps) c.self.view_is ∙ after.keeps;
      sends = ap (λ (f : Fetching _). f.sends) c.self.view_is ∙ after.sends;
      is_recording = ap (λ (f : Fetching _). f.is_recording) c.self.view_is ∙ after.is_recording;
      one = λ none. tt;
      most = subst (λ (f : Fetching _). g.C.Connect.made f.connect ≤ g.C.Connect.made c.args.self.now.connect + 1) (sym c.self.view_is) after.most;
      told = tt;
      stands = subst (λ (f : Fetching _). StandsBy g.C.Connect g.C.Wire.Wire standard c.args.self.now f c.args.at.now) (sym c.self.view_is) after.stands;
      noted = tt;
      unnoted = c.in_err-push.ensures.items ∙ ap (λ (f : Fetching _). f.notes) c.self.view_is ∙ after.notes;
    })

pub returns : goal.returns
returns g c =
    let after = c.in_ok-received.ensures in
    let told = c.in_ok-received.received in
    let links : c.self.inside.links ≡ c.args.self.now.links = ap (λ (f : Fetching _). f.links) c.self.view_is ∙ after.links in
    record {
      asks = ap (λ (f : Fetching _). f.asks) c.self.view_is ∙ after.asks;
      links = links;
      keeps = ap (λ (f : Fetching _). f.keeps) c.self.view_is ∙ after.keeps;
      sends = ap (λ (f : Fetching _). f.sends) c.self.view_is ∙ after.sends;
      is_recording = ap (λ (f : Fetching _). f.is_recording) c.self.view_is ∙ after.is_recording;
      one = λ none. subst (λ (f : Fetching _). g.C.Connect.made f.connect ≡ counted (g.C.Connect.made c.args.self.now.connect) 1) (sym c.self.view_is) (after.one none);
      most = subst (λ (f : Fetching _). g.C.Connect.made f.connect ≤ g.C.Connect.made c.args.self.now.connect + 1) (sym c.self.view_is) after.most;
      told = told_by_answer g.C.Connect g.C.Wire.Wire standard c.args.self.now _ _ c.args.at.now told c.in_ok-answer.answer c.self.view_is after.links
          c.in_ok-answer.ensures.outcome c.in_ok-answer.ensures.body after.told;
      stands = subst (λ (f : Fetching _). StandsBy g.C.Connect g.C.Wire.Wire standard c.args.self.now f c.args.at.now) (sym c.self.view_is) after.stands;
      noted = (
        told,
        c.in_ok-push.ensures.items ∙ ap (λ (at : AddressText). c.self.inside.notes.items ++ Page at told ∷ []) c.in_ok-name.ensures
            ∙ ap (λ ns. ns ++ Page c.args.at.now told ∷ []) (ap (λ (f : Fetching _). f.notes) c.self.view_is ∙ after.notes),
        c.in_ok-answer.ensures.outcome ∙ ap (λ b. received_outcome b c.args.at.now told) links,
        c.in_ok-answer.ensures.body,
      );
      unnoted = tt;
    }
