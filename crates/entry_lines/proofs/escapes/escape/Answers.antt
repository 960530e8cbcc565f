use Rattle.std.proofs.Common.{◌≡◌, sym, subst, arith}
use Rattle.std.proofs.lemmas.Grind.{common_steps}
use Rattle.entry_lines.specs.Lines.{ArePlain}
use Rattle.entry_lines.specs.Escapes.{escaped, HasNoSpace}
use Rattle.entry_lines.proofs.EscapeLaws.{plain_escaped, no_space_escaped}
use Rattle.entry_lines.proofs.escapes.escape.Goals as goal

pub returns-clause-plain : goal.returns-clause-plain
returns-clause-plain c =
    let same : c.loop-rest.out.items ≡ escaped c.args.bytes.now = grind (arith, common_steps) in
    subst ArePlain (sym same) (plain_escaped c.args.bytes.now)

pub returns-clause-no_space : goal.returns-clause-no_space
returns-clause-no_space c =
    let same : c.loop-rest.out.items ≡ escaped c.args.bytes.now = grind (arith, common_steps) in
    subst HasNoSpace (sym same) (no_space_escaped c.args.bytes.now)
