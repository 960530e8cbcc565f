-- After the exchange the fetcher stays as it is.
use Rattle.std.proofs.Common.{◌≡◌, refl, subst}
use Rattle.std.proofs.lemmas.Result.{err_from_is_err_and}
use Rattle.answer_notes.specs.Received.{received_outcome}
use Rattle.response_reader.specs.Limits.{standard}
use Rattle.http_fetcher.specs.Fetching.{Fetching}
use Rattle.http_fetcher.proofs.ReceivedLemmas.{told_by_answer}
use Rattle.http_fetcher.proofs.http_fetcher.HttpFetcher.ask_page.Goals as goal

pub returns-in_err-received : goal.returns-in_err-received
returns-in_err-received g c =
    let p = err_from_is_err_and c.from_residual.result c.from_residual.ensures.1 in
    let after = c.exchange.ensures in
    rw p.1 (record {
      asks = after.asks;
      links = after.links;
      keeps = after.keeps;
      sends = after.sends;
      is_recording = after.is_recording;
      notes = after.notes;
      one = λ none. tt;
      most = after.most;
      told = tt;
      stands = after.stands;
    })

pub returns-in_err-answer : goal.returns-in_err-answer
returns-in_err-answer g c =
    let p = err_from_is_err_and c.from_residual-in_err-answer.result c.from_residual-in_err-answer.ensures.1 in
    let after = c.in_ok-received.ensures in
    rw p.1 (record {
      asks = after.asks;
      links = after.links;
      keeps = after.keeps;
      sends = after.sends;
      is_recording = after.is_recording;
      notes = after.notes;
      one = λ none. tt;
      most = after.most;
      told = tt;
      stands = after.stands;
    })

pub returns : goal.returns
returns g c =
    let after = c.in_ok-received.ensures in
    record {
      asks = after.asks;
      links = after.links;
      keeps = after.keeps;
      sends = after.sends;
      is_recording = after.is_recording;
      notes = after.notes;
      one = after.one;
      most = after.most;
      told = told_by_answer g.C.Connect g.C.Wire.Wire standard c.args.self.now c.exchange.new.self c.exchange.new.self c.args.at.now c.in_ok-received.received c.in_ok-answer.answer
          refl after.links
          (subst (λ (f : Fetching _). c.in_ok-answer.answer.outcome ≡ received_outcome f.links c.args.at.now c.in_ok-received.received) c.self.view_is c.in_ok-answer.ensures.outcome)
          c.in_ok-answer.ensures.body after.told;
      stands = after.stands;
    }
