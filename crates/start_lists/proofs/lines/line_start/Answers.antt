-- Bytes that aren't text name nothing.
use Rattle.std.proofs.Common.{◌≡◌, false, refl, rules}
use Rattle.std.specs.Str.{is_utf8}
use Rattle.std.proofs.lemmas.Str.{is_utf8-from_IsUtf8}
use Rattle.start_lists.specs.Lists.{line_start}
use Rattle.start_lists.proofs.LineLaws.{not_text}
use Rattle.start_lists.proofs.lines.line_start.Goals as goal

pub returns-in-Ok : goal.returns-in-Ok
unfolding line_start
returns-in-Ok c =
    let text = is_utf8-from_IsUtf8 c.args.line.now c.in-Ok.ensures.cases.1 in
    search (rules, text)

pub returns-in-Err : goal.returns-in-Err
unfolding line_start
returns-in-Err c =
    let fails : is_utf8 c.args.line.now ≡ false = not_text c.args.line.now c.in-Err.ensures.cases.0 in
    rw fails refl
