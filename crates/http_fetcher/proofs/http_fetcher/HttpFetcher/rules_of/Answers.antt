-- After the hops the notes alone change, if they are taken.
use Rattle.std.proofs.Common.{◌≡◌, ◌∙◌, ◌≤◌, ◌+◌, ◌++◌, [], ◌∷◌, sym, ap, subst}
use Rattle.std.proofs.lemmas.Result.{err_from_is_err_and}
use Rattle.address.specs.Address.{OriginText}
use Rattle.answer_notes.specs.RobotsAnswers.{max_redirects}
use Rattle.answer_notes.specs.declared.noted.Noted.TheVariants.{Chain}
use Rattle.response_reader.specs.Limits.{standard}
use Rattle.http_fetcher.specs.Chains.{CountsHops}
use Rattle.http_fetcher.specs.Fetching.{Fetching, StandsBehind}
use Rattle.http_fetcher.proofs.http_fetcher.HttpFetcher.rules_of.Goals.{then-self+in_ok-push, else-self}
use Rattle.http_fetcher.proofs.http_fetcher.HttpFetcher.rules_of.Goals as goal

pub returns-in_err-hops : goal.returns-in_err-hops
returns-in_err-hops g c =
    let p = err_from_is_err_and c.from_residual.result c.from_residual.ensures.1 in
    let after = c.follow.ensures in
    rw p.1 (record {
      asks = after.asks;
      links = after.links;
      keeps = after.keeps;
      sends = after.sends;
      is_recording = after.is_recording;
      few = after.few;
      stands = after.stands;
      count = λ none. tt;
      chain = tt;
      noted = tt;
      unnoted = after.notes;
    })

pub returns-in_err-push : goal.returns-in_err-push
returns-in_err-push g c =
    let p = err_from_is_err_and c.from_residual-in_err-push.result c.from_residual-in_err-push.ensures.1 in
    let after = c.in_ok-hops.ensures in
    rw p.1 (record {
      asks = ap (λ (f : Fetching _). f.asks) c.self.view_is ∙ after.asks;
      links = ap (λ (f : Fetching _). f.links) c.self.view_is ∙ after.links;
      keeps = ap (λ (f : Fetching _). f.keeps) c.self.view_is ∙ after.keeps;
      sends = ap (λ (f : Fetching _). f.sends) c.self.view_is ∙ after.sends;
      is_recording = ap (λ (f : Fetching _). f.is_recording) c.self.view_is ∙ after.is_recording;
      few = subst (λ (f : Fetching _). g.C.Connect.made f.connect ≤ g.C.Connect.made c.args.self.now.connect + (max_redirects + 1)) (sym c.self.view_is) after.few;
      stands = subst (λ (f : Fetching _). StandsBehind g.C.Connect g.C.Wire.Wire standard c.args.self.now f) (sym c.self.view_is) after.stands;
      count = λ none. tt;
      chain = tt;
      noted = tt;
      unnoted = c.in_err-push.ensures.items ∙ ap (λ (f : Fetching _). f.notes) c.self.view_is ∙ after.notes;
    })

pub returns : goal.returns
returns g c =
    let after = c.in_ok-hops.ensures in
    let recording : c.self.inside.is_recording ≡ c.args.self.now.is_recording = ap (λ (f : Fetching _). f.is_recording) c.self.view_is ∙ after.is_recording in
    elim c.if-self.branch [
      | then-self+in_ok-push w ↦ rw w.self-is (record {
        asks = ap (λ (f : Fetching _). f.asks) c.self.view_is ∙ after.asks;
        links = ap (λ (f : Fetching _). f.links) c.self.view_is ∙ after.links;
        keeps = ap (λ (f : Fetching _). f.keeps) c.self.view_is ∙ after.keeps;
        sends = ap (λ (f : Fetching _). f.sends) c.self.view_is ∙ after.sends;
        is_recording = recording;
        few = subst (λ (f : Fetching _). g.C.Connect.made f.connect ≤ g.C.Connect.made c.args.self.now.connect + (max_redirects + 1)) (sym c.self.view_is) after.few;
        stands = subst (λ (f : Fetching _). StandsBehind g.C.Connect g.C.Wire.Wire standard c.args.self.now f) (sym c.self.view_is) after.stands;
        count = λ none. subst (λ (f : Fetching _). CountsHops (g.C.Connect.made c.args.self.now.connect) (g.C.Connect.made f.connect) c.args.of.now c.in_ok-hops.rules) (sym c.self.view_is) (after.count none);
        chain = after.chain;
        noted = rw (sym recording ∙ w.if-self.true) (
          c.in_ok-hops.hops.hops,
          w.in_ok-push.ensures.items ∙ ap (λ (of : OriginText). c.self.inside.notes.items ++ Chain (record { of = of; hops = c.in_ok-hops.hops.hops }) ∷ []) after.of
              ∙ ap (λ ns. ns ++ Chain (record { of = c.args.of.now; hops = c.in_ok-hops.hops.hops }) ∷ []) (ap (λ (f : Fetching _). f.notes) c.self.view_is ∙ after.notes),
          after.rules,
        );
        unnoted = tt;
      })
      | else-self w ↦ rw w.self-is (record {
        asks = after.asks;
        links = after.links;
        keeps = after.keeps;
        sends = after.sends;
        is_recording = after.is_recording;
        few = after.few;
        stands = after.stands;
        count = after.count;
        chain = after.chain;
        noted = rw (sym recording ∙ w.if-self.false) after.notes;
        unnoted = tt;
      })
    ]
