-- What is delivered is the ending's text, and what is handed over is the output's log.
use Rattle.std.proofs.Common.{inl, refl, subst, List, ℕ}
use Rattle.retriever.specs.Parts.{IsDelivered}
use Rattle.retriever.specs.Rejecting.{IsLogOfInput}
use Rattle.retriever.proofs.LogLaws.{taken}
use Rattle.retriever.proofs.RunLaws.{ends_unfit, runs_output, runs_refused}
use Rattle.retriever.proofs.input_run.run_and_log.Goals as goal

pub returns-in-Ok : goal.returns-in-Ok
returns-in-Ok g c =
    let known = g.R.Read.remaining c.args.reader.now in
    let before = g.W.Write.contents c.args.writer.now in
    let after = g.W.Write.contents c.deliver-status.new.writer in
    let order = c.args.order.now in
    let wanted = c.in-Ok.output.status in
    let told = subst (λ (text : List ℕ). IsDelivered before after text wanted c.deliver-status.result) c.as_bytes.ensures.value c.deliver-status.ensures in
    record {
      runs = λ words says. runs_output words known before after order _ wanted c.deliver-status.result says c.in-Ok.ensures.ok told;
      unread = c.in-Ok.ensures.unread;
      logged = taken (IsLogOfInput order known) c.in-Ok.output.rejected _ _ c.in-Ok.ensures.rejected c.hand_over.ensures;
    }

pub returns-in-Err : goal.returns-in-Err
returns-in-Err g c =
    let known = g.R.Read.remaining c.args.reader.now in
    let before = g.W.Write.contents c.args.writer.now in
    let after = g.W.Write.contents c.refuse.new.writer in
    record {
      runs = λ words says. runs_refused words known before after c.in-Err.fault c.refuse.result (ends_unfit words known c.args.order.now c.in-Err.fault says c.in-Err.ensures.err) c.refuse.ensures;
      unread = c.in-Err.ensures.unread;
      logged = inl refl;
    }
