-- The ask is logged, and then answered.
use Rattle.std.proofs.Common.{◌≡◌, ◌∙◌, ◌++◌, [], ◌∷◌, codes, inl, inr, refl, sym, ap, le-add_right}
use Rattle.std.proofs.lemmas.Result.{err_from_is_err_and}
use Rattle.address.specs.Address.{OriginText}
use Rattle.answer_notes.specs.RobotsAnswers.{max_redirects}
use Rattle.response_answer.proofs.DigestLemmas.{if_ok_map}
use Rattle.fetcher.specs.declared.fetcher.Ask.TheVariants.{Rules}
use Rattle.response_reader.specs.Limits.{standard}
use Rattle.http_fetcher.specs.Fetching.{Fetching}
use Rattle.http_fetcher.proofs.ExitLemmas.{on_ok, on_err}
use Rattle.http_fetcher.proofs.MeaningLaws.{may_rule}
use Rattle.http_fetcher.proofs.http_fetcher.HttpFetcherFetcher.ask_robots.Goals as goal

pub returns-in_err-try_clone : goal.returns-in_err-try_clone
returns-in_err-try_clone g c =
    let p = err_from_is_err_and c.from_residual.result c.from_residual.ensures.1 in
    rw (p.1, sym c.self.view_is) (record {
      asked = tt;
      refused = inl refl;
      first = inl refl;
      links = refl;
      keeps = refl;
      sends = refl;
      few = le-add_right _ _;
      stands = λ of wire stood. inl stood;
      count = λ none. tt;
      chain = tt;
      may = tt;
      is_recording = refl;
      noted = tt;
      unnoted = refl;
    })

pub returns-in_err-push : goal.returns-in_err-push
returns-in_err-push g c =
    let p = err_from_is_err_and c.from_residual-in_err-push.result c.from_residual-in_err-push.ensures.1 in
    rw (p.1, sym c.self.view_is) (record {
      asked = tt;
      refused = inl c.in_err-push.ensures.items;
      first = inl refl;
      links = refl;
      keeps = refl;
      sends = refl;
      few = le-add_right _ _;
      stands = λ of wire stood. inl stood;
      count = λ none. tt;
      chain = tt;
      may = tt;
      is_recording = refl;
      noted = tt;
      unnoted = refl;
    })

pub returns : goal.returns
returns g c =
    let after = c.rules_of.ensures in
    let asked : c.rules_of.new.self.asks ≡ c.args.self.now.asks ++ Rules c.args.of.now ∷ [] =
    after.asks ∙ c.in_ok-push.ensures.items ∙ ap (λ (of : OriginText). c.self.inside.asks.items ++ Rules of ∷ []) c.in_ok-try_clone.ensures
    ∙ ap (λ (f : Fetching _). f.asks ++ Rules c.args.of.now ∷ []) c.self.view_is in
    record {
      asked = on_ok _ asked;
      refused = on_err _ (inr asked);
      first = on_err _ (inr asked);
      links = after.links ∙ ap (λ (f : Fetching _). f.links) c.self.view_is;
      keeps = after.keeps ∙ ap (λ (f : Fetching _). f.keeps) c.self.view_is;
      sends = after.sends ∙ ap (λ (f : Fetching _). f.sends) c.self.view_is;
      few = rw (sym c.self.view_is) after.few;
      stands = rw (sym c.self.view_is) after.stands;
      count = rw (sym c.self.view_is) after.count;
      chain = rw (sym c.self.view_is) after.chain;
      may = if_ok_map c.rules_of.result _ _ after.chain
          (λ r chain. may_rule g.C.Connect g.C.Wire.Wire standard c.args.self.now max_redirects (c.args.of.now ++ codes "/robots.txt") r (rw (sym c.self.view_is) chain));
      is_recording = after.is_recording ∙ ap (λ (f : Fetching _). f.is_recording) c.self.view_is;
      noted = rw (sym c.self.view_is) after.noted;
      unnoted = rw (sym c.self.view_is) after.unnoted;
    }
