use Rattle.std.proofs.Common.{rules, ◌≡◌}
use Rattle.std.specs.Prelude.{IfOk}
use Rattle.entry_lines.specs.Escapes.{read_back}
use Rattle.entry_lines.proofs.EscapeLaws.{read_back_of}
use Rattle.entry_lines.proofs.escapes.unescape.Goals as goal

pub returns-then-is_meant_as_is-clause-back : goal.returns-then-is_meant_as_is-clause-back
returns-then-is_meant_as_is-clause-back c =
    let read : IfOk c.from_slice.result (λ v. v.items ≡ read_back c.args.bytes.now) = search rules in
    read_back_of c.from_slice.result c.args.bytes.now read

pub returns-clause-back : goal.returns-clause-back
returns-clause-back c = read_back_of c.unescape_each.result c.args.bytes.now c.unescape_each.ensures
