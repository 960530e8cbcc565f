use Rattle.std.proofs.Common.{◌≡◌, ◌∙◌, ◌+◌, [], ◌∷◌, ◌++◌, ap, sym, take}
use Rattle.std.proofs.lemmas.List.{take_more}
use Rattle.cookie_files.specs.Matches.{sent, value_of}
use Rattle.cookie_files.specs.inner.AskedView.{asked_value}
use Rattle.cookie_files.proofs.ValueLemmas.{sent_more}
use Rattle.cookie_files.proofs.cookies.pairs.Goals as goal

pub loop-cookie-preserved : goal.loop-cookie-preserved
loop-cookie-preserved c =
    let asked = asked_value c.args.asked.now in
    let cookies = c.args.cookies.now in
    let i = c.loop-cookie.cookie-index in
    let cookie = c.cookie-item.result in
    let next : take (i + 1) cookies ≡ take i cookies ++ cookie ∷ [] = take_more cookies i cookie c.loop-cookie-test.true ∙ ap (λ x. take i cookies ++ x ∷ []) (sym c.cookie-item.is) in
    record {
      value =
          c.in_ok-push_sent.ensures.sent
          ∙ sent_more asked c.args.now (take i cookies) cookie c.loop-cookie.text.items c.loop-cookie.invariant.value
          ∙ ap (λ front. value_of (sent asked c.args.now front)) (sym next);
      clean = c.in_ok-push_sent.ensures.clean c.loop-cookie.invariant.clean;
    }
