use Rattle.std.proofs.Common.{sym}
use Rattle.cookie_files.proofs.CutLemmas.{split_more, split_last}
use Rattle.cookie_files.proofs.cookies.split_line.Goals as goal

pub returns-in-Some : goal.returns-in-Some
returns-in-Some c = split_more 10 c.args.bytes.now c.in-Some.line.now c.in-Some.rest.now (sym c.in-Some.ensures)

pub returns-in-None : goal.returns-in-None
returns-in-None c = split_last 10 c.args.bytes.now (sym c.in-None.ensures)
