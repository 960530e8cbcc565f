-- The ask is logged, and then answered.
use Rattle.std.proofs.Common.{◌≡◌, ◌∙◌, ◌++◌, [], ◌∷◌, inl, inr, refl, sym, ap, le-add_right}
use Rattle.std.proofs.lemmas.Result.{err_from_is_err_and}
use Rattle.response_answer.proofs.DigestLemmas.{if_ok_map}
use Rattle.address.specs.Address.{AddressText}
use Rattle.fetcher.specs.declared.fetcher.Ask.TheVariants.{Page}
use Rattle.response_reader.specs.Limits.{standard}
use Rattle.http_fetcher.specs.Fetching.{Fetching, received_answer}
use Rattle.http_fetcher.proofs.ExitLemmas.{on_ok, on_err}
use Rattle.http_fetcher.proofs.MeaningLaws.{may_answer}
use Rattle.http_fetcher.proofs.http_fetcher.HttpFetcherReceiving.ask_received.Goals as goal

pub returns-in_err-try_clone : goal.returns-in_err-try_clone
returns-in_err-try_clone g c =
    let p = err_from_is_err_and c.from_residual.result c.from_residual.ensures.1 in
    rw p.1 (record {
      asked = tt;
      refused = inl refl;
      first = inl refl;
      links = refl;
      keeps = refl;
      sends = refl;
      one = λ none. tt;
      most = le-add_right _ _;
      told = tt;
      stands = λ of wire stood. inl stood;
      may = tt;
      is_recording = refl;
      notes = refl;
    })

pub returns-in_err-push : goal.returns-in_err-push
returns-in_err-push g c =
    let p = err_from_is_err_and c.from_residual-in_err-push.result c.from_residual-in_err-push.ensures.1 in
    rw (p.1, sym c.self.view_is) (record {
      asked = tt;
      refused = inl c.in_err-push.ensures.items;
      first = inl refl;
      links = refl;
      keeps = refl;
      sends = refl;
      one = λ none. tt;
      most = le-add_right _ _;
      told = tt;
      stands = λ of wire stood. inl stood;
      may = tt;
      is_recording = refl;
      notes = refl;
    })

pub returns : goal.returns
returns g c =
    let after = c.exchange.ensures in
    let asked : c.exchange.new.self.asks ≡ c.args.self.now.asks ++ Page c.args.at.now ∷ [] =
    after.asks ∙ c.in_ok-push.ensures.items ∙ ap (λ (at : AddressText). c.self.inside.asks.items ++ Page at ∷ []) c.in_ok-try_clone.ensures
    ∙ ap (λ (f : Fetching _). f.asks ++ Page c.args.at.now ∷ []) c.self.view_is in
    record {
      asked = on_ok _ asked;
      refused = on_err _ (inr asked);
      first = on_err _ (inr asked);
      links = after.links ∙ ap (λ (f : Fetching _). f.links) c.self.view_is;
      keeps = after.keeps ∙ ap (λ (f : Fetching _). f.keeps) c.self.view_is;
      sends = after.sends ∙ ap (λ (f : Fetching _). f.sends) c.self.view_is;
      one = rw (sym c.self.view_is) after.one;
      most = rw (sym c.self.view_is) after.most;
      told = rw (sym c.self.view_is) after.told;
      stands = rw (sym c.self.view_is) after.stands;
      may = if_ok_map c.exchange.result _ _ after.told
          (λ t told. may_answer g.C.Connect g.C.Wire.Wire standard c.args.self.now c.exchange.new.self c.args.at.now (received_answer c.args.self.now.links c.args.at.now t) (rw (sym c.self.view_is) told));
      is_recording = after.is_recording ∙ ap (λ (f : Fetching _). f.is_recording) c.self.view_is;
      notes = after.notes ∙ ap (λ (f : Fetching _). f.notes) c.self.view_is;
    }
