-- The bytes are a front of the first line, or they aren't.
use Rattle.std.proofs.Common.{length, drop, refl, inl, inr}
use Rattle.std.proofs.lemmas.Result.{err_from_is_err_and}
use Rattle.site_records.specs.declared.version.Version.TheVariants.{Second}
use Rattle.site_records.specs.Records.{version_line}
use Rattle.site_records.proofs.ReadLaws.{begins_so}
use Rattle.site_records.proofs.FrontLaws.{begins_with}
use Rattle.site_records.proofs.front.torn_first.Goals as goal

pub returns-in_default-clause-fault : goal.returns-in_default-clause-fault
returns-in_default-clause-fault c = inl (refl, c.requires, (λ more. begins_so c.args.bytes.now (version_line Second) more c.in_default.ensures.cases))

pub returns-in_err-site-clause-fault : goal.returns-in_err-site-clause-fault
returns-in_err-site-clause-fault c =
    let p = err_from_is_err_and c.from_residual.result c.from_residual.ensures.1 in
    rw (p.1, p.2) (inr (inr (c.requires, (drop (length c.args.bytes.now) (version_line Second), begins_with c.args.bytes.now (version_line Second) c.in-Some.ensures.cases.0))))

pub returns-clause-front : goal.returns-clause-front
returns-clause-front c =
    let e = c.in_ok-site.ensures in
    let a = c.new-nothing.ensures.answers in
    let b = c.new-nothing.ensures.rules in
    inr ((c.requires, (drop (length c.args.bytes.now) (version_line Second), begins_with c.args.bytes.now (version_line Second) c.in-Some.ensures.cases.0)), refl, cc)
