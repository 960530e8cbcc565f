-- The log is of the site that the order's source describes.
use Rattle.std.proofs.Common.{subst, sym}
use Rattle.std.specs.Prelude.{IfOk}
use Rattle.options.specs.declared.order.Source.{Source}
use Rattle.retriever.specs.Rejecting.{IfLog, IsLogDescribed}
use Rattle.retriever.specs.Site.{IsDescribedBy}
use Rattle.retriever.proofs.input_run.output_of.Goals as goal

pub returns-in-Map-clause-rejected : goal.returns-in-Map-clause-rejected
returns-in-Map-clause-rejected g c =
    let order = c.args.order.now in
    let known = g.R.Read.remaining c.args.reader.now in
    subst (λ (s : Source). IfOk c.output_of_map.result (λ output. IfLog (IsLogDescribed (IsDescribedBy s order.links) order known) output.rejected)) (sym c.in-Map.is) c.output_of_map.ensures.rejected

pub returns-in-Recorded-clause-rejected : goal.returns-in-Recorded-clause-rejected
returns-in-Recorded-clause-rejected g c =
    let order = c.args.order.now in
    let known = g.R.Read.remaining c.args.reader.now in
    subst (λ (s : Source). IfOk c.output_of_record.result (λ output. IfLog (IsLogDescribed (IsDescribedBy s order.links) order known) output.rejected)) (sym c.in-Recorded.is) c.output_of_record.ensures.rejected
