-- The bytes begin with the line that was taken off.
use Rattle.site_records.specs.declared.version.Version.TheVariants.{Second}
use Rattle.site_records.proofs.ReadLaws.{has_version}
use Rattle.site_records.proofs.version.version_of.Goals as goal

pub returns-in-Some-strip_prefix : goal.returns-in-Some-strip_prefix
returns-in-Some-strip_prefix c =
    has_version Second c.args.bytes.now c.in-Some-strip_prefix.rest.now c.in-Some-strip_prefix.ensures.cases.0 c.in-Some-strip_prefix.ensures.cases.1
