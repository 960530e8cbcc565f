-- An answer over a connection that was kept, or else over a new one.
use Rattle.std.proofs.Common.{◌∙◌, inl, refl, sym, subst, le-add_right, true≢false}
use Rattle.std.proofs.lemmas.Result.{err_from_is_err_and}
use Rattle.std.specs.Prelude.{◌≡◌, ◌≤◌, ◌+◌, OnOk}
use Rattle.response_reader.specs.Wire.{counted}
use Rattle.response_reader.specs.Limits.{standard}
use Rattle.http_fetcher.specs.Fetching.{AnsweredWithRetry, received_answer}
use Rattle.http_fetcher.proofs.ExitLemmas.{none_made}
use Rattle.http_fetcher.proofs.KeptLemmas.{if_ok_on, stands_twice, told_second}
use Rattle.http_fetcher.proofs.http_fetcher.HttpFetcher.exchange.Goals as goal

pub returns-in_err-origin : goal.returns-in_err-origin
returns-in_err-origin g c =
    let p = err_from_is_err_and c.from_residual.result c.from_residual.ensures.1 in
    rw p.1 (record {
      asks = refl;
      links = refl;
      keeps = refl;
      sends = refl;
      is_recording = refl;
      notes = refl;
      one = λ none. tt;
      most = le-add_right _ _;
      told = tt;
      stands = λ of wire stood. inl stood;
    })

pub returns-in_err-received : goal.returns-in_err-received
returns-in_err-received g c =
    let p = err_from_is_err_and c.from_residual-in_err-received.result c.from_residual-in_err-received.ensures.1 in
    let after = c.exchange_on_kept.ensures in
    rw p.1 (record {
      asks = after.asks;
      links = after.links;
      keeps = after.keeps;
      sends = after.sends;
      is_recording = after.is_recording;
      notes = after.notes;
      one = λ none. tt;
      most = none_made _ _ after.made;
      told = tt;
      stands = after.stands;
    })

pub returns-in-Some : goal.returns-in-Some
returns-in-Some g c =
    let after = c.in_ok-received.ensures in
    let told = rw c.in-Some.is at after.told in
    record {
      asks = after.asks;
      links = after.links;
      keeps = after.keeps;
      sends = after.sends;
      is_recording = after.is_recording;
      notes = after.notes;
      one = λ none. absurd (true≢false (sym told.2 ∙ none));
      most = none_made _ _ after.made;
      told = inl told;
      stands = after.stands;
    }

pub returns : goal.returns
returns g c =
    let old = c.args.self.now in
    let before = c.in_ok-received.ensures in
    let mid = c.exchange_on_kept.new.self in
    let after = c.exchange_on_new.ensures in
    let new = c.exchange_on_new.new.self in
    record {
      asks = after.asks ∙ before.asks;
      links = after.links ∙ before.links;
      keeps = after.keeps ∙ before.keeps;
      sends = after.sends ∙ before.sends;
      is_recording = after.is_recording ∙ before.is_recording;
      notes = after.notes ∙ before.notes;
      one = λ none. subst (λ n. OnOk c.exchange_on_new.result (g.C.Connect.made new.connect ≡ counted n 1)) before.made after.one;
      most = subst (λ n. g.C.Connect.made new.connect ≤ n + 1) before.made after.most;
      told = if_ok_on c.exchange_on_new.result _ _ _ after.one after.told
          (λ one t told. subst (λ b. AnsweredWithRetry g.C.Connect g.C.Wire.Wire standard old new c.args.at.now (received_answer b c.args.at.now t)) before.links
          (told_second g.C.Connect g.C.Wire.Wire standard old mid new c.args.at.now (received_answer mid.links c.args.at.now t) before.made before.refused before.links before.keeps before.sends
          (rw c.in-None.is at before.gives) (rw c.in-None.is at before.silent) after.taken one told));
      stands = stands_twice g.C.Connect g.C.Wire.Wire standard old mid new c.args.at.now before.links before.keeps before.sends before.stands after.stands;
    }
