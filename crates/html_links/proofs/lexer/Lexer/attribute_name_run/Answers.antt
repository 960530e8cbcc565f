use Rattle.html_links.proofs.Running.{attribute_name_over}
use Rattle.html_links.proofs.lexer.Lexer.attribute_name_run.Goals as goal

pub returns-clause-gives : goal.returns-clause-gives
returns-clause-gives c = λ rest.
    let named = rw c.split.ensures.front at c.in_ok-push_name.ensures.named in
    rw c.split.ensures.left (attribute_name_over c.args.self.now c.push_name.new.self c.args.text.now rest c.in_ok-push_name.ensures.same named)
