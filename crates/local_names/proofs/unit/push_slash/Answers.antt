use Rattle.std.proofs.Common.{◌<◌, ◌++◌, length, sym, ap, ◌∙◌, arith}
use Rattle.std.proofs.lemmas.Bool.{eqb-true}
use Rattle.std.proofs.lemmas.Bool.Decides.{nat_tests}
use Rattle.std.proofs.lemmas.Result.{err_from_is_err_and}
use Rattle.std.proofs.lemmas.Str.{encode_ascii}
use Rattle.std.specs.String.{string_bytes}
use Rattle.local_names.proofs.UnitLaws.{started_none, started_some}
use Rattle.local_names.proofs.unit.push_slash.Goals as goal

pub returns-then-is_empty : goal.returns-then-is_empty
returns-then-is_empty c = started_none (string_bytes c.args.name.now) (sym c.args.name.now.bytes.ok.0 ∙ eqb-true _ 0 (sym c.is_empty.ensures ∙ c.if-is_empty.true))

pub returns-in_err-push : goal.returns-in_err-push
returns-in_err-push c = rw (err_from_is_err_and c.from_residual.result c.from_residual.ensures.1).1 tt

pub returns : goal.returns
returns c =
    let old = string_bytes c.args.name.now in
    let long = c.args.name.now.bytes.ok.0 in
    let some : 0 < length old = grind (arith, nat_tests, c.is_empty.ensures, c.if-is_empty.false, long) in
    c.in_ok-push.ensures.bytes ∙ ap (λ more. old ++ more) (encode_ascii 47 (omega arith)) ∙ started_some old some
