use Rattle.html_links.proofs.Running.{bare_over}
use Rattle.html_links.proofs.lexer.Lexer.attribute_value_unquoted_run.Goals as goal

pub returns-clause-gives : goal.returns-clause-gives
returns-clause-gives c = λ rest.
    let kept = rw c.split.ensures.front at c.in_ok-push_value.ensures.kept in
    rw c.split.ensures.left (bare_over c.args.self.now c.push_value.new.self c.args.text.now rest c.in_ok-push_value.ensures.same kept)
