use Rattle.std.proofs.Common.{◌++◌, ◌∙◌, sym, ap}
use Rattle.html_links.specs.Lexing.{in_end_tag_name}
use Rattle.html_links.proofs.Running.{end_name_over}
use Rattle.html_links.proofs.lexer.Lexer.end_tag_name_run.Goals as goal

pub returns-clause-gives : goal.returns-clause-gives
returns-clause-gives c = λ rest.
    let named = rw c.split.ensures.front at c.in_ok-push_end_name.ensures.named in
    end_name_over c.args.self.now c.push_end_name.new.self c.args.text.now rest c.in_ok-push_end_name.ensures.same named
    ∙ ap (λ left. in_end_tag_name c.push_end_name.new.self (left ++ rest)) (sym c.split.ensures.left)
