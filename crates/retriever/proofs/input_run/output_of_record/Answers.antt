-- The site is the record's, and what is retrieved is what it has.
use Rattle.site_records.specs.Records.{says_of}
use Rattle.retriever.specs.Site.{IsRecordOf}
use Rattle.retriever.proofs.EndLaws.{record_fits, record_kinds}
use Rattle.retriever.proofs.LogLaws.{log_told}
use Rattle.retriever.proofs.input_run.output_of_record.Goals as goal

pub returns-clause-ok : goal.returns-clause-ok
returns-clause-ok g c =
    let site = says_of c.in_ok-site.site.answers c.in_ok-site.site.rules in
    (site, c.in_ok-site.ensures.ok, (c.in_ok-told.ensures site (record_fits site) (record_kinds site)).0)

pub returns-clause-rejected : goal.returns-clause-rejected
returns-clause-rejected g c =
    let site = says_of c.in_ok-site.site.answers c.in_ok-site.site.rules in
    log_told (IsRecordOf c.args.order.now.links) c.args.order.now (g.R.Read.remaining c.args.reader.now) _ _ c.in_ok-site.ensures.ok (c.in_ok-told.ensures site (record_fits site) (record_kinds site)).1
