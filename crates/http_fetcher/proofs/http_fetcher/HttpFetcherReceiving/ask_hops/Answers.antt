-- The ask is logged, and then answered.
use Rattle.std.proofs.Common.{◌≡◌, ◌∙◌, ◌++◌, [], ◌∷◌, false, inl, inr, refl, sym, ap, le-add_right}
use Rattle.std.proofs.lemmas.Result.{err_from_is_err_and}
use Rattle.address.specs.Address.{OriginText}
use Rattle.fetcher.specs.declared.fetcher.Ask.TheVariants.{Rules}
use Rattle.response_reader.specs.Limits.{standard}
use Rattle.http_fetcher.specs.Fetching.{Fetching}
use Rattle.http_fetcher.proofs.MeaningLaws.{may_rule}
use Rattle.http_fetcher.proofs.http_fetcher.HttpFetcherReceiving.ask_hops.Goals as goal
use Rattle.http_fetcher.proofs.http_fetcher.HttpFetcherReceiving.ask_hops.Goals.{In_ok-push}

-- The ask is logged.
logged : (g : _) → (c : In_ok-push g) → c.push.new.self.items ≡ c.args.self.now.asks ++ Rules c.args.of.now ∷ []
logged g c =
    c.in_ok-push.ensures.items ∙ ap (λ (of : OriginText). c.self.inside.asks.items ++ Rules of ∷ []) c.in_ok-try_clone.ensures
    ∙ ap (λ (f : Fetching _). f.asks ++ Rules c.args.of.now ∷ []) c.self.view_is

pub returns-in_err-try_clone : goal.returns-in_err-try_clone
returns-in_err-try_clone g c =
    let p = err_from_is_err_and c.from_residual.result c.from_residual.ensures.1 in
    rw p.1 (record {
      asked = tt;
      refused = inl refl;
      first = inl refl;
      links = refl;
      keeps = refl;
      sends = refl;
      of = tt;
      few = le-add_right _ _;
      stands = λ of wire stood. inl stood;
      count = λ none. tt;
      chain = tt;
      may = tt;
      is_recording = refl;
      notes = refl;
    })

pub returns-in_err-push : goal.returns-in_err-push
returns-in_err-push g c =
    let p = err_from_is_err_and c.from_residual-in_err-push.result c.from_residual-in_err-push.ensures.1 in
    rw (p.1, sym c.self.view_is) (record {
      asked = tt;
      refused = inl c.in_err-push.ensures.items;
      first = inl refl;
      links = refl;
      keeps = refl;
      sends = refl;
      of = tt;
      few = le-add_right _ _;
      stands = λ of wire stood. inl stood;
      count = λ none. tt;
      chain = tt;
      may = tt;
      is_recording = refl;
      notes = refl;
    })

pub returns-in_err-hops : goal.returns-in_err-hops
returns-in_err-hops g c =
    let p = err_from_is_err_and c.from_residual-in_err-hops.result c.from_residual-in_err-hops.ensures.1 in
    let after = c.follow.ensures in
    let asked : c.follow.new.self.asks ≡ c.args.self.now.asks ++ Rules c.args.of.now ∷ [] = after.asks ∙ logged g (goal.at.returns-in_err-hops g c).In_ok-push in
    rw p.1 (record {
      asked = tt;
      refused = inr asked;
      first = inr asked;
      links = after.links ∙ ap (λ (f : Fetching _). f.links) c.self.view_is;
      keeps = after.keeps ∙ ap (λ (f : Fetching _). f.keeps) c.self.view_is;
      sends = after.sends ∙ ap (λ (f : Fetching _). f.sends) c.self.view_is;
      of = tt;
      few = rw (sym c.self.view_is) after.few;
      stands = rw (sym c.self.view_is) after.stands;
      count = λ none. tt;
      chain = tt;
      may = tt;
      is_recording = after.is_recording ∙ ap (λ (f : Fetching _). f.is_recording) c.self.view_is;
      notes = after.notes ∙ ap (λ (f : Fetching _). f.notes) c.self.view_is;
    })

pub returns : goal.returns
returns g c =
    let after = c.in_ok-hops.ensures in
    let asked : c.follow.new.self.asks ≡ c.args.self.now.asks ++ Rules c.args.of.now ∷ [] = after.asks ∙ logged g (goal.at.returns g c).In_ok-push in
    record {
      asked = asked;
      refused = tt;
      first = tt;
      links = after.links ∙ ap (λ (f : Fetching _). f.links) c.self.view_is;
      keeps = after.keeps ∙ ap (λ (f : Fetching _). f.keeps) c.self.view_is;
      sends = after.sends ∙ ap (λ (f : Fetching _). f.sends) c.self.view_is;
      of = after.of;
      few = rw (sym c.self.view_is) after.few;
      stands = rw (sym c.self.view_is) after.stands;
      count = rw (sym c.self.view_is) after.hops;
      chain = rw (sym c.self.view_is, sym after.rules) after.chain;
      may = rw (sym c.self.view_is, sym after.rules) (may_rule g.C.Connect g.C.Wire.Wire standard (record { connect = c.self.inside.connect; links = c.self.inside.links; keeps = c.self.inside.keeps; sends = c.self.inside.sends; asks = []; is_recording = false; notes = [] }) _ _ _ after.chain);
      is_recording = after.is_recording ∙ ap (λ (f : Fetching _). f.is_recording) c.self.view_is;
      notes = after.notes ∙ ap (λ (f : Fetching _). f.notes) c.self.view_is;
    }
