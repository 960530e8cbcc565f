-- Digits that were written are read back.
use Rattle.std.proofs.Common.{◌≡◌, ◌∙◌, Ok, sym, subst, arith}
use Rattle.std.proofs.lemmas.Fmt.{IsAscii-decimal, parse-decimal}
use Rattle.std.proofs.lemmas.Grind.{common_steps}
use Rattle.std.proofs.lemmas.Str.{IsUtf8-from_ascii}
use Rattle.std.specs.Str.{IsAscii}
use Rattle.mirror_index.proofs.line.number_in.Goals as goal

pub returns-in-Ok : goal.returns-in-Ok
returns-in-Ok c n small is =
    let parsed : c.parse.result ≡ Ok n = parse-decimal 64 n c.in-Ok.text.now c.parse.result small small (c.in-Ok.ensures.cases.0 ∙ is) c.parse.ensures.value.0 in
    grind (arith, common_steps)

pub returns-in-Err : goal.returns-in-Err
returns-in-Err c n small is = absurd (c.in-Err.ensures.cases.0 (IsUtf8-from_ascii c.args.field.now (subst IsAscii (sym is) (IsAscii-decimal n small))))
