use Rattle.html_links.specs.Markup.{start_tag}
use Rattle.html_links.specs.Lexing.{tags_after}
use Rattle.html_links.proofs.Running.{tag_name_ran}
use Rattle.html_links.proofs.lexer.Lexer.tag_name_run.Goals as goal

pub returns-clause-gives : goal.returns-clause-gives
returns-clause-gives c = λ rest.
    tag_name_ran (λ name found. tags_after c.args.self.now.context (start_tag c.args.self.now.context name found)) c.args.self.now.name.items c.push_lower.new.name.items
    c.args.text.now _ _ rest c.in_ok-push_lower.ensures c.split.ensures.front c.split.ensures.left
