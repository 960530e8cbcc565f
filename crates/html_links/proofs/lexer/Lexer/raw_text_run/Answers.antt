use Rattle.html_links.proofs.Running.{raw_over}
use Rattle.html_links.proofs.lexer.Lexer.raw_text_run.Goals as goal

pub returns-clause-gives : goal.returns-clause-gives
returns-clause-gives c = λ rest. rw c.from_byte.ensures.left (raw_over c.args.self.now.context c.args.element c.args.text.now rest)
