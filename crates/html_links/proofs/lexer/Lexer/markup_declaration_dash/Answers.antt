use Rattle.std.proofs.Common.{◌∙◌}
use Rattle.html_links.proofs.Stepping.{comment_begins, declaration_dash_other}
use Rattle.html_links.proofs.lexer.Lexer.markup_declaration_dash.Goals as goal

pub returns-then-byte-eq45 : goal.returns-then-byte-eq45
returns-then-byte-eq45 c = λ rest. rw c.if-byte-eq45.true (comment_begins c.args.self.now rest)

pub returns-else-byte-eq45 : goal.returns-else-byte-eq45
returns-else-byte-eq45 c = λ rest. declaration_dash_other c.args.self.now c.args.byte rest c.if-byte-eq45.false ∙ c.bogus_comment.ensures rest
