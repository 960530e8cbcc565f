use Rattle.early_names.proofs.ClaimLaws.{directory_found, no_directory}
use Rattle.early_names.proofs.claims.directory_of.Goals as goal

pub returns-in-Some : goal.returns-in-Some
returns-in-Some c = directory_found c.args.name.now c.in-Some.directory.now c.in-Some.field-0-1.now c.in-Some.ensures.cases

pub returns-in-None : goal.returns-in-None
returns-in-None c = no_directory c.args.name.now c.in-None.ensures.cases
