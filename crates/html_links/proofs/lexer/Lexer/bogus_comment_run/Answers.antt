use Rattle.std.proofs.Common.{ap}
use Rattle.html_links.specs.Pieces.{is}
use Rattle.html_links.specs.Lexing.{in_markup}
use Rattle.html_links.proofs.Running.{beyond_over}
use Rattle.html_links.proofs.lexer.Lexer.bogus_comment_run.Goals as goal

pub returns-clause-gives : goal.returns-clause-gives
returns-clause-gives c = λ rest. rw c.from_byte.ensures.left (ap (in_markup c.args.self.now) (beyond_over (is 62) c.args.text.now rest))
