-- Each redirect makes the chain and the hops longer by one answer, and the last answer ends them.
use Rattle.std.proofs.Common.{◌∙◌, ◌<◌, ◌-◌, ◌++◌, [], ◌∷◌, inl, arith, refl, sym, ap, subst, append_assoc, le-add_right}
use Rattle.std.proofs.lemmas.Result.{err_from_is_err_and}
use Rattle.answer_notes.specs.HopChains.{IsAdmitted, rules_of_hops}
use Rattle.response_reader.specs.Limits.{standard}
use Rattle.http_fetcher.specs.inner.Chains.{IsHopReceived}
use Rattle.http_fetcher.specs.declared.chain.Hop.TheVariants.{Next, Last}
use Rattle.http_fetcher.specs.Fetching.{received_answer}
use Rattle.http_fetcher.proofs.KeptLemmas.{stands_more}
use Rattle.http_fetcher.proofs.ChainLemmas.{chain_ends, chain_goes_on, few_more, given_by, one_more}
use Rattle.answer_notes.proofs.HopLemmas.{hop_goes_on, hop_ends, rules_behind}
use Rattle.http_fetcher.proofs.ReceivedLemmas.{tells_of, tells_says}
use Rattle.http_fetcher.proofs.http_fetcher.HttpFetcher.follow.Goals as goal

pub hops-preserved : goal.hops-preserved
hops-preserved g c =
    let tells : IsHopReceived c.hops.at c.in_ok-received.received c.hops.left (Next c.in-Next.next) = tells_of c.hops.at c.in_ok-received.received c.hops.left _ _ c.in-Next.is c.in_ok-rules.ensures in
    let some : 0 < c.hops.left = tells.0 in
    record {
      asks = c.in_ok-received.ensures.asks ∙ c.hops.invariant.asks;
      links = c.in_ok-received.ensures.links ∙ c.hops.invariant.links;
      keeps = c.in_ok-received.ensures.keeps ∙ c.hops.invariant.keeps;
      sends = c.in_ok-received.ensures.sends ∙ c.hops.invariant.sends;
      is_recording = c.in_ok-received.ensures.is_recording ∙ c.hops.invariant.is_recording;
      notes = c.in_ok-received.ensures.notes ∙ c.hops.invariant.notes;
      origin = c.hops.invariant.origin;
      left = let was = c.hops.invariant.left in omega arith;
      count = λ none. one_more _ _ _ c.hops.hops.items _ (c.hops.at, c.in_ok-received.received) (c.hops.invariant.count none) (c.in_ok-received.ensures.one (c.hops.invariant.keeps ∙ none)) c.in_ok-push-in-Next.ensures.items;
      few = let was = c.hops.invariant.few in let most = c.in_ok-received.ensures.most in omega arith;
      stands = stands_more g.C.Connect g.C.Wire.Wire standard c.args.self.now c.hops.self c.exchange.new.self c.hops.at c.hops.invariant.links c.hops.invariant.keeps c.hops.invariant.sends c.hops.invariant.stands c.in_ok-received.ensures.stands;
      chain = λ r chain. c.hops.invariant.chain r (chain_goes_on _ c.hops.left (c.hops.left - 1) _ _ r _ _
          (given_by g.C.Connect g.C.Wire.Wire standard c.args.self.now c.hops.self c.exchange.new.self c.hops.at (received_answer c.hops.self.links c.hops.at c.in_ok-received.received) c.hops.invariant.links c.hops.invariant.keeps c.hops.invariant.sends c.in_ok-received.ensures.told)
          (tells_says c.hops.self.links c.hops.at c.in_ok-received.received c.hops.left (Next c.in-Next.next) tells) (omega arith) chain);
      admitted = λ tail are. subst (λ l. IsAdmitted c.args.of.now l)
          (sym (ap (λ l. l ++ tail) c.in_ok-push-in-Next.ensures.items ∙ append_assoc c.hops.hops.items ((c.hops.at, c.in_ok-received.received) ∷ []) tail))
          (c.hops.invariant.admitted ((c.hops.at, c.in_ok-received.received) ∷ tail) (hop_goes_on c.hops.left (c.hops.left - 1) c.hops.at c.in-Next.next c.in_ok-received.received tail tells.1 (omega arith) are));
    }

pub new-requires : goal.new-requires
new-requires g c =
    let tells : IsHopReceived c.hops.at c.in_ok-received.received c.hops.left (Last c.in-Last.rules) = tells_of c.hops.at c.in_ok-received.received c.hops.left _ _ c.in-Last.is c.in_ok-rules.ensures in
    subst (λ o. IsAdmitted o c.push.new.self.items) (sym c.hops.invariant.origin)
    (subst (λ l. IsAdmitted c.args.of.now l) (sym c.in_ok-push-in-Last.ensures.items)
    (c.hops.invariant.admitted ((c.hops.at, c.in_ok-received.received) ∷ []) (hop_ends c.hops.left c.hops.at c.in_ok-received.received tells.0)))

pub returns-in-Last : goal.returns-in-Last
returns-in-Last g c =
    let tells : IsHopReceived c.hops.at c.in_ok-received.received c.hops.left (Last c.in-Last.rules) = tells_of c.hops.at c.in_ok-received.received c.hops.left _ _ c.in-Last.is c.in_ok-rules.ensures in
    let was = c.hops.invariant in
    let after = c.in_ok-received.ensures in
    record {
      asks = after.asks ∙ was.asks;
      links = after.links ∙ was.links;
      keeps = after.keeps ∙ was.keeps;
      sends = after.sends ∙ was.sends;
      is_recording = after.is_recording ∙ was.is_recording;
      notes = after.notes ∙ was.notes;
      few = few_more _ _ _ _ _ was.few after.most;
      stands = stands_more g.C.Connect g.C.Wire.Wire standard c.args.self.now c.hops.self c.exchange.new.self c.hops.at was.links was.keeps was.sends was.stands after.stands;
      count = λ none. (
        c.hops.hops.items ++ (c.hops.at, c.in_ok-received.received) ∷ [],
        was.admitted ((c.hops.at, c.in_ok-received.received) ∷ []) (hop_ends c.hops.left c.hops.at c.in_ok-received.received tells.0),
        tells.1 ∙ sym (rules_behind c.hops.hops.items (c.hops.at, c.in_ok-received.received) []),
        one_more _ _ _ c.hops.hops.items _ (c.hops.at, c.in_ok-received.received) (was.count none) (after.one (was.keeps ∙ none)) refl,
      );
      hops = λ none. one_more _ _ _ c.hops.hops.items _ (c.hops.at, c.in_ok-received.received) (was.count none) (after.one (was.keeps ∙ none)) (c.new.ensures.hops ∙ c.in_ok-push-in-Last.ensures.items);
      of = c.new.ensures.of ∙ was.origin;
      rules = tells.1 ∙ sym (ap rules_of_hops (c.new.ensures.hops ∙ c.in_ok-push-in-Last.ensures.items) ∙ rules_behind c.hops.hops.items (c.hops.at, c.in_ok-received.received) []);
      chain = was.chain _ (chain_ends _ c.hops.left _ _ _ _
          (given_by g.C.Connect g.C.Wire.Wire standard c.args.self.now c.hops.self c.exchange.new.self c.hops.at (received_answer c.hops.self.links c.hops.at c.in_ok-received.received) was.links was.keeps was.sends after.told)
          (tells_says c.hops.self.links c.hops.at c.in_ok-received.received c.hops.left (Last c.in-Last.rules) tells));
    }

pub returns-in_err-origin : goal.returns-in_err-origin
returns-in_err-origin g c =
    let p = err_from_is_err_and c.from_residual.result c.from_residual.ensures.1 in
    rw p.1 (record {
      asks = refl;
      links = refl;
      keeps = refl;
      sends = refl;
      is_recording = refl;
      notes = refl;
      few = le-add_right _ _;
      stands = λ of wire stood. inl stood;
      count = λ none. tt;
      hops = λ none. tt;
      of = tt;
      rules = tt;
      chain = tt;
    })

pub returns-in_err-at : goal.returns-in_err-at
returns-in_err-at g c =
    let p = err_from_is_err_and c.from_residual-in_err-at.result c.from_residual-in_err-at.ensures.1 in
    rw p.1 (record {
      asks = refl;
      links = refl;
      keeps = refl;
      sends = refl;
      is_recording = refl;
      notes = refl;
      few = le-add_right _ _;
      stands = λ of wire stood. inl stood;
      count = λ none. tt;
      hops = λ none. tt;
      of = tt;
      rules = tt;
      chain = tt;
    })

pub returns-in_err-received : goal.returns-in_err-received
returns-in_err-received g c =
    let p = err_from_is_err_and c.from_residual-in_err-received.result c.from_residual-in_err-received.ensures.1 in
    let was = c.hops.invariant in
    let after = c.exchange.ensures in
    rw p.1 (record {
      asks = after.asks ∙ was.asks;
      links = after.links ∙ was.links;
      keeps = after.keeps ∙ was.keeps;
      sends = after.sends ∙ was.sends;
      is_recording = after.is_recording ∙ was.is_recording;
      notes = after.notes ∙ was.notes;
      few = few_more _ _ _ _ _ was.few after.most;
      stands = stands_more g.C.Connect g.C.Wire.Wire standard c.args.self.now c.hops.self c.exchange.new.self c.hops.at was.links was.keeps was.sends was.stands after.stands;
      count = λ none. tt;
      hops = λ none. tt;
      of = tt;
      rules = tt;
      chain = tt;
    })

pub returns-in_err-rules : goal.returns-in_err-rules
returns-in_err-rules g c =
    let p = err_from_is_err_and c.from_residual-in_err-rules.result c.from_residual-in_err-rules.ensures.1 in
    let was = c.hops.invariant in
    let after = c.in_ok-received.ensures in
    rw p.1 (record {
      asks = after.asks ∙ was.asks;
      links = after.links ∙ was.links;
      keeps = after.keeps ∙ was.keeps;
      sends = after.sends ∙ was.sends;
      is_recording = after.is_recording ∙ was.is_recording;
      notes = after.notes ∙ was.notes;
      few = few_more _ _ _ _ _ was.few after.most;
      stands = stands_more g.C.Connect g.C.Wire.Wire standard c.args.self.now c.hops.self c.exchange.new.self c.hops.at was.links was.keeps was.sends was.stands after.stands;
      count = λ none. tt;
      hops = λ none. tt;
      of = tt;
      rules = tt;
      chain = tt;
    })

pub returns-in_err-push-in-Last : goal.returns-in_err-push-in-Last
returns-in_err-push-in-Last g c =
    let p = err_from_is_err_and c.from_residual-in_err-push-in-Last.result c.from_residual-in_err-push-in-Last.ensures.1 in
    let was = c.hops.invariant in
    let after = c.in_ok-received.ensures in
    rw p.1 (record {
      asks = after.asks ∙ was.asks;
      links = after.links ∙ was.links;
      keeps = after.keeps ∙ was.keeps;
      sends = after.sends ∙ was.sends;
      is_recording = after.is_recording ∙ was.is_recording;
      notes = after.notes ∙ was.notes;
      few = few_more _ _ _ _ _ was.few after.most;
      stands = stands_more g.C.Connect g.C.Wire.Wire standard c.args.self.now c.hops.self c.exchange.new.self c.hops.at was.links was.keeps was.sends was.stands after.stands;
      count = λ none. tt;
      hops = λ none. tt;
      of = tt;
      rules = tt;
      chain = tt;
    })

pub returns-in_err-push-in-Next : goal.returns-in_err-push-in-Next
returns-in_err-push-in-Next g c =
    let p = err_from_is_err_and c.from_residual-in_err-push-in-Next.result c.from_residual-in_err-push-in-Next.ensures.1 in
    let was = c.hops.invariant in
    let after = c.in_ok-received.ensures in
    rw p.1 (record {
      asks = after.asks ∙ was.asks;
      links = after.links ∙ was.links;
      keeps = after.keeps ∙ was.keeps;
      sends = after.sends ∙ was.sends;
      is_recording = after.is_recording ∙ was.is_recording;
      notes = after.notes ∙ was.notes;
      few = few_more _ _ _ _ _ was.few after.most;
      stands = stands_more g.C.Connect g.C.Wire.Wire standard c.args.self.now c.hops.self c.exchange.new.self c.hops.at was.links was.keeps was.sends was.stands after.stands;
      count = λ none. tt;
      hops = λ none. tt;
      of = tt;
      rules = tt;
      chain = tt;
    })
