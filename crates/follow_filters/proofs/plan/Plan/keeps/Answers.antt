use Rattle.follow_filters.specs.KeptNames.{text_of_name}
use Rattle.follow_filters.proofs.Meaning.{kept}
use Rattle.follow_filters.proofs.plan.Plan.keeps.Goals as goal

pub returns : goal.returns
returns c =
    let says = kept c.args.self.now c.args.address.now c.of.result.file.now (text_of_name c.of.result) c.keeps_name.result c.keeps_name.ensures c.of.ensures.file c.of.ensures.full in
    record { value = says.0; means = says.1 }
