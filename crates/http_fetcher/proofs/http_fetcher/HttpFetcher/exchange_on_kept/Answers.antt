-- What is asked over a kept connection changes nothing but what makes the connections.
use Rattle.std.proofs.Common.{◌≡◌, ◌∙◌, true, inl, inr, refl, sym, ap, subst}
use Rattle.response_reader.specs.Limits.{standard}
use Rattle.http_fetcher.specs.Fetching.{Fetching, received_answer}
use Rattle.http_fetcher.proofs.KeptLemmas.{stands_by}
use Rattle.http_fetcher.proofs.http_fetcher.HttpFetcher.exchange_on_kept.Goals as goal

pub returns-then-not-self : goal.returns-then-not-self
returns-then-not-self g c =
    rw (sym c.self.view_is) (record {
      asks = refl;
      links = refl;
      keeps = refl;
      sends = refl;
      is_recording = refl;
      notes = refl;
      made = refl;
      refused = refl;
      gives = λ of wire gave. gave;
      silent = inl refl;
      told = tt;
      stands = λ of wire stood. inl stood;
    })

pub returns-in_default : goal.returns-in_default
returns-in_default g c =
    rw (sym c.self.view_is) (record {
      asks = refl;
      links = refl;
      keeps = refl;
      sends = refl;
      is_recording = refl;
      notes = refl;
      made = c.take.ensures.made;
      refused = c.take.ensures.refused;
      gives = c.take.ensures.gives;
      silent = inl c.in_default.ensures.taken;
      told = tt;
      stands = λ of wire stood. inl (c.take.ensures.stands of wire stood);
    })

pub returns-then-has_given_up : goal.returns-then-has_given_up
returns-then-has_given_up g c =
    let keeps : c.self.inside.keeps ≡ true = c.if-not-self.false in
    let now = c.self-in-Ok-Some.view_is ∙ c.received_over_kept.ensures.same in
    let closed = c.close.ensures in
    rw (sym c.self.view_is) (record {
      asks = ap (λ (f : Fetching _). f.asks) now;
      links = ap (λ (f : Fetching _). f.links) now;
      keeps = ap (λ (f : Fetching _). f.keeps) now;
      sends = ap (λ (f : Fetching _). f.sends) now;
      is_recording = ap (λ (f : Fetching _). f.is_recording) now;
      notes = ap (λ (f : Fetching _). f.notes) now;
      made = closed.made ∙ ap (λ (f : Fetching _). g.C.Connect.made f.connect) now ∙ c.take.ensures.made;
      refused = closed.refused ∙ ap (λ (f : Fetching _). g.C.Connect.refused f.connect) now ∙ c.take.ensures.refused;
      gives = λ of wire gave. c.take.ensures.gives of wire (subst (λ (f : Fetching _). g.C.Connect.gives f.connect of wire) now (closed.gives of wire gave));
      silent = inr (rw (sym c.requires) (
        closed.taken ∙ ap (λ (f : Fetching _). g.C.Connect.taken f.connect) now ∙ c.in-Some.ensures.taken,
        keeps,
        (
          c.in-Some.wire,
          c.in-Some.ensures.given,
          inr (
            received_answer c.self.inside.links c.args.at.now c.in-Ok-Some.exchange.received,
            sym (c.has_given_up.ensures c.self.inside.links c.args.at.now) ∙ c.if-has_given_up.true,
            rw c.in-Ok-Some.field-0-is at c.in-Ok-Some.ensures.told,
          ),
        ),
      ));
      told = tt;
      stands = λ of wire stood. inl (c.take.ensures.stands of wire (subst (λ (f : Fetching _). g.C.Connect.stands f.connect of wire) now (closed.stands of wire stood)));
    })

pub returns-else-has_given_up : goal.returns-else-has_given_up
returns-else-has_given_up g c =
    let keeps : c.self.inside.keeps ≡ true = c.if-not-self.false in
    let put = c.put_away.ensures in
    let same = c.received_over_kept.ensures.same in
    rw (sym c.self.view_is) (record {
      asks = put.asks ∙ ap (λ (f : Fetching _). f.asks) same;
      links = put.links ∙ ap (λ (f : Fetching _). f.links) same;
      keeps = put.keeps ∙ ap (λ (f : Fetching _). f.keeps) same;
      sends = put.sends ∙ ap (λ (f : Fetching _). f.sends) same;
      is_recording = put.is_recording ∙ ap (λ (f : Fetching _). f.is_recording) same;
      notes = put.notes ∙ ap (λ (f : Fetching _). f.notes) same;
      made = put.made ∙ ap (λ (f : Fetching _). g.C.Connect.made f.connect) same ∙ c.take.ensures.made;
      refused = put.refused ∙ ap (λ (f : Fetching _). g.C.Connect.refused f.connect) same ∙ c.take.ensures.refused;
      gives = tt;
      silent = tt;
      told = rw (sym c.requires) (
        put.made ∙ ap (λ (f : Fetching _). g.C.Connect.made f.connect) same ∙ c.take.ensures.made,
        put.taken ∙ ap (λ (f : Fetching _). g.C.Connect.taken f.connect) same ∙ c.in-Some.ensures.taken,
        keeps,
        sym (c.has_given_up.ensures c.self.inside.links c.args.at.now) ∙ c.if-has_given_up.false,
        (c.in-Some.wire, c.in-Some.ensures.given, rw c.in-Ok-Some.field-0-is at c.in-Ok-Some.ensures.told),
      );
      stands = stands_by g.C.Connect g.C.Wire.Wire standard _ _ _ (record { at = c.args.at.now; links = c.self.inside.links; keeps = c.self.inside.keeps; sends = c.self.inside.sends; limits = standard })
          _ c.in-Ok-Some.exchange.reusable c.in-Some.wire c.received_over_kept.new.wire c.requires c.take.ensures.stands
          (rw same at put.stands) (rw c.in-Ok-Some.field-0-is at c.in-Ok-Some.ensures.reusable);
    })

pub returns-in-Ok-None : goal.returns-in-Ok-None
returns-in-Ok-None g c =
    let keeps : c.self.inside.keeps ≡ true = c.if-not-self.false in
    let now = c.self-in-Ok-None.view_is ∙ c.received_over_kept.ensures.same in
    let closed = c.close-in-Ok-None.ensures in
    rw (sym c.self.view_is) (record {
      asks = ap (λ (f : Fetching _). f.asks) now;
      links = ap (λ (f : Fetching _). f.links) now;
      keeps = ap (λ (f : Fetching _). f.keeps) now;
      sends = ap (λ (f : Fetching _). f.sends) now;
      is_recording = ap (λ (f : Fetching _). f.is_recording) now;
      notes = ap (λ (f : Fetching _). f.notes) now;
      made = closed.made ∙ ap (λ (f : Fetching _). g.C.Connect.made f.connect) now ∙ c.take.ensures.made;
      refused = closed.refused ∙ ap (λ (f : Fetching _). g.C.Connect.refused f.connect) now ∙ c.take.ensures.refused;
      gives = λ of wire gave. c.take.ensures.gives of wire (subst (λ (f : Fetching _). g.C.Connect.gives f.connect of wire) now (closed.gives of wire gave));
      silent = inr (rw (sym c.requires) (
        closed.taken ∙ ap (λ (f : Fetching _). g.C.Connect.taken f.connect) now ∙ c.in-Some.ensures.taken,
        keeps,
        (c.in-Some.wire, c.in-Some.ensures.given, inl (rw c.in-Ok-None.field-0-is at c.in-Ok-None.ensures.silent)),
      ));
      told = tt;
      stands = λ of wire stood. inl (c.take.ensures.stands of wire (subst (λ (f : Fetching _). g.C.Connect.stands f.connect of wire) now (closed.stands of wire stood)));
    })

pub returns-in-Err : goal.returns-in-Err
returns-in-Err g c =
    let now = c.self-in-Err.view_is ∙ c.received_over_kept.ensures.same in
    let closed = c.close-in-Err.ensures in
    rw (sym c.self.view_is) (record {
      asks = ap (λ (f : Fetching _). f.asks) now;
      links = ap (λ (f : Fetching _). f.links) now;
      keeps = ap (λ (f : Fetching _). f.keeps) now;
      sends = ap (λ (f : Fetching _). f.sends) now;
      is_recording = ap (λ (f : Fetching _). f.is_recording) now;
      notes = ap (λ (f : Fetching _). f.notes) now;
      made = closed.made ∙ ap (λ (f : Fetching _). g.C.Connect.made f.connect) now ∙ c.take.ensures.made;
      refused = closed.refused ∙ ap (λ (f : Fetching _). g.C.Connect.refused f.connect) now ∙ c.take.ensures.refused;
      gives = tt;
      silent = tt;
      told = tt;
      stands = λ of wire stood. inl (c.take.ensures.stands of wire (subst (λ (f : Fetching _). g.C.Connect.stands f.connect of wire) now (closed.stands of wire stood)));
    })
