use Rattle.std.proofs.Common.{ℕ, List, ◌++◌, ◌∙◌, sym, ap}
use Rattle.html_links.specs.Pieces.{from, is}
use Rattle.html_links.specs.Lexing.{asked_from, in_text}
use Rattle.html_links.specs.declared.lexer.Lexer.{Lexer}
use Rattle.html_links.proofs.Running.{text_over}
use Rattle.html_links.proofs.lexer.Lexer.text_run.Goals as goal

pub returns-clause-gives : goal.returns-clause-gives
returns-clause-gives c =
    let l = c.args.self.now in
    let more : List ℕ → List ℕ = λ rest. from (is 60) c.args.text.now ++ rest in
    λ rest. text_over l.styled l.sheet.front l.held.items l.context c.args.text.now rest
    ∙ ap (λ run. asked_from l.styled l.sheet.front (l.held.items ++ run) l.context (more rest)) (sym c.split_at_byte.ensures.front)
    ∙ sym (c.in_ok-hold.ensures.held l.sheet.front l.context (more rest)) ∙ ap (λ (to : Lexer). in_text to (more rest)) (sym c.in_ok-hold.ensures.same)
    ∙ ap (λ left. in_text c.hold.new.self (left ++ rest)) (sym c.split_at_byte.ensures.left)
