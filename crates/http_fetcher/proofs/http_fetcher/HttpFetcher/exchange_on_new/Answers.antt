-- What is asked over a new connection changes nothing but what makes the connections.
use Rattle.std.proofs.Common.{◌≡◌, ◌∙◌, inl, inr, refl, sym, ap, subst}
use Rattle.response_reader.specs.Wire.{counted}
use Rattle.response_reader.specs.Limits.{standard}
use Rattle.http_fetcher.specs.Fetching.{Fetching}
use Rattle.http_fetcher.proofs.ExitLemmas.{one_made, risen}
use Rattle.http_fetcher.proofs.KeptLemmas.{stands_by}
use Rattle.http_fetcher.proofs.http_fetcher.HttpFetcher.exchange_on_new.Goals as goal

pub returns-in-Ok-received_over : goal.returns-in-Ok-received_over
returns-in-Ok-received_over g c =
    let put = c.put_away.ensures in
    let same = c.received_over.ensures.same in
    let one : g.C.Connect.made c.put_away.new.self.connect ≡ counted (g.C.Connect.made c.self.inside.connect) 1 =
    put.made ∙ ap (λ (f : Fetching _). g.C.Connect.made f.connect) same ∙ c.connect.ensures.made in
    rw (sym c.self.view_is) (record {
      asks = put.asks ∙ ap (λ (f : Fetching _). f.asks) same;
      links = put.links ∙ ap (λ (f : Fetching _). f.links) same;
      keeps = put.keeps ∙ ap (λ (f : Fetching _). f.keeps) same;
      sends = put.sends ∙ ap (λ (f : Fetching _). f.sends) same;
      is_recording = put.is_recording ∙ ap (λ (f : Fetching _). f.is_recording) same;
      notes = put.notes ∙ ap (λ (f : Fetching _). f.notes) same;
      one = one;
      most = one_made _ _ one;
      taken = put.taken ∙ ap (λ (f : Fetching _). g.C.Connect.taken f.connect) same ∙ c.connect.ensures.taken;
      told = rw (sym c.requires) (inr (c.in-Ok.wire, c.in-Ok.ensures.given, c.in-Ok-received_over.ensures.told));
      stands = stands_by g.C.Connect g.C.Wire.Wire standard _ _ _ (record { at = c.args.at.now; links = c.self.inside.links; keeps = c.self.inside.keeps; sends = c.self.inside.sends; limits = standard })
          _ c.in-Ok-received_over.exchange.reusable c.in-Ok.wire c.received_over.new.wire c.requires c.in-Ok.ensures.stands
          (rw same at put.stands) c.in-Ok-received_over.ensures.reusable;
    })

pub returns-in-Err : goal.returns-in-Err
returns-in-Err g c =
    let now = c.self-in-Err.view_is ∙ c.received_over.ensures.same in
    let closed = c.close.ensures in
    let one : g.C.Connect.made c.close.new.self ≡ counted (g.C.Connect.made c.self.inside.connect) 1 =
    closed.made ∙ ap (λ (f : Fetching _). g.C.Connect.made f.connect) now ∙ c.connect.ensures.made in
    rw (sym c.self.view_is) (record {
      asks = ap (λ (f : Fetching _). f.asks) now;
      links = ap (λ (f : Fetching _). f.links) now;
      keeps = ap (λ (f : Fetching _). f.keeps) now;
      sends = ap (λ (f : Fetching _). f.sends) now;
      is_recording = ap (λ (f : Fetching _). f.is_recording) now;
      notes = ap (λ (f : Fetching _). f.notes) now;
      one = tt;
      most = one_made _ _ one;
      taken = closed.taken ∙ ap (λ (f : Fetching _). g.C.Connect.taken f.connect) now ∙ c.connect.ensures.taken;
      told = tt;
      stands = λ of wire stood. inl (c.in-Ok.ensures.stands of wire (subst (λ (f : Fetching _). g.C.Connect.stands f.connect of wire) now (closed.stands of wire stood)));
    })

pub returns-in-Err-Failed : goal.returns-in-Err-Failed
returns-in-Err-Failed g c =
    rw (sym c.self.view_is) (record {
      asks = refl;
      links = refl;
      keeps = refl;
      sends = refl;
      is_recording = refl;
      notes = refl;
      one = c.connect.ensures.made;
      most = one_made _ _ c.connect.ensures.made;
      taken = c.connect.ensures.taken;
      told = inl (risen _ _ (rw c.in-Err-Failed.field-0-is at c.in-Err-Failed.ensures.refused), refl, refl);
      stands = λ of wire stood. inl (c.connect.ensures.stands of wire stood);
    })

pub returns-in-Err-Memory : goal.returns-in-Err-Memory
returns-in-Err-Memory g c =
    rw (sym c.self.view_is) (record {
      asks = refl;
      links = refl;
      keeps = refl;
      sends = refl;
      is_recording = refl;
      notes = refl;
      one = tt;
      most = one_made _ _ c.connect.ensures.made;
      taken = c.connect.ensures.taken;
      told = tt;
      stands = λ of wire stood. inl (c.connect.ensures.stands of wire stood);
    })
