-- Digits that were written are read back.
use Rattle.std.proofs.Common.{◌≡◌, ◌<◌, ◌^◌, Ok, arith}
use Rattle.std.proofs.lemmas.Fmt.{parse-decimal}
use Rattle.std.proofs.lemmas.Grind.{common_steps}
use Rattle.earlier_answers.proofs.answer.status_in.Goals as goal

pub returns : goal.returns
returns c n small is =
    let wide : n < 2 ^ 64 = omega arith in
    let parsed : c.parse.result ≡ Ok n = parse-decimal 16 n c.args.field.now c.parse.result small wide is c.parse.ensures.value.0 in
    grind (arith, common_steps)
