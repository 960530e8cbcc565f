use Rattle.html_links.proofs.Running.{quoted_over}
use Rattle.html_links.proofs.lexer.Lexer.attribute_value_quoted_run.Goals as goal

pub returns-clause-gives : goal.returns-clause-gives
returns-clause-gives c = λ rest.
    let kept = rw c.split_at_byte.ensures.front at c.in_ok-push_value.ensures.kept in
    rw c.split_at_byte.ensures.left (quoted_over c.args.quote c.args.self.now c.push_value.new.self c.args.text.now rest c.in_ok-push_value.ensures.same kept)
