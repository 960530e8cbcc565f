-- What is delivered is the ending's text.
use Rattle.std.proofs.Common.{subst, List, ℕ}
use Rattle.options.specs.declared.order.Source.TheVariants as source
use Rattle.retriever.specs.Parts.{IsDelivered}
use Rattle.retriever.proofs.ProgramLaws.{map_is_not_live, record_is_not_live}
use Rattle.retriever.proofs.RunLaws.{ends_unfit, runs_output, runs_refused, finds_told, finds_unfit}
use Rattle.retriever.proofs.input_run.run_of_order.Goals as goal

pub returns-in-Ok : goal.returns-in-Ok
returns-in-Ok g c =
    let known = g.R.Read.remaining c.args.reader.now in
    let before = g.W.Write.contents c.args.writer.now in
    let after = g.W.Write.contents c.deliver.new.writer in
    let order = c.args.order.now in
    let output = c.in-Ok.ensures.ok in
    let wanted = c.in-Ok.output.status in
    let told = subst (λ (text : List ℕ). IsDelivered before after text wanted c.deliver.result) c.as_bytes.ensures.value c.deliver.ensures in
    record {
      of_map = λ is. finds_told source.Map order known before after _ wanted c.deliver.result is output told;
      of_record = λ is. finds_told source.Recorded order known before after _ wanted c.deliver.result is output told;
      runs = λ words says. runs_output words known before after order _ wanted c.deliver.result says output told;
      unread = c.in-Ok.ensures.unread;
    }

pub returns-in-Err : goal.returns-in-Err
returns-in-Err g c =
    let known = g.R.Read.remaining c.args.reader.now in
    let before = g.W.Write.contents c.args.writer.now in
    let after = g.W.Write.contents c.refuse.new.writer in
    let order = c.args.order.now in
    let unfit = c.in-Err.ensures.err in
    record {
      of_map = λ is. finds_unfit source.Map order known before after c.in-Err.fault c.refuse.result is map_is_not_live unfit c.refuse.ensures;
      of_record = λ is. finds_unfit source.Recorded order known before after c.in-Err.fault c.refuse.result is record_is_not_live unfit c.refuse.ensures;
      runs = λ words says. runs_refused words known before after c.in-Err.fault c.refuse.result (ends_unfit words known order c.in-Err.fault says unfit) c.refuse.ensures;
      unread = c.in-Err.ensures.unread;
    }
