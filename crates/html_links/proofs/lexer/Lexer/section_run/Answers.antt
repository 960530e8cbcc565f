use Rattle.std.proofs.Common.{ℕ, List, ◌++◌, ◌∙◌, sym, ap}
use Rattle.html_links.specs.Pieces.{until, from, is}
use Rattle.html_links.specs.Markup.{mark, until_section, beyond_section}
use Rattle.html_links.specs.Lexing.{in_section}
use Rattle.html_links.proofs.Stepping.{section_put}
use Rattle.html_links.proofs.Running.{section_over}
use Rattle.html_links.proofs.lexer.Lexer.section_run.Goals as goal

pub returns-clause-gives : goal.returns-clause-gives
returns-clause-gives c =
    let l = c.args.self.now in
    let s = c.args.section in
    let front = rw c.mark.ensures at c.split_at_byte.ensures.front in
    let left = rw c.mark.ensures at c.split_at_byte.ensures.left in
    let more : List ℕ → List ℕ = λ rest. from (is (mark s)) c.args.text.now ++ rest in
    let put = rw front at c.in_ok-put_section.ensures.sheet in
    λ rest. section_over l s c.args.text.now rest
    ∙ section_put l c.put_section.new.self s (until (is (mark s)) c.args.text.now) (until_section s (more rest)) (beyond_section s (more rest)) c.in_ok-put_section.ensures.same put
    ∙ ap (λ xs. in_section c.put_section.new.self s (xs ++ rest)) (sym left)
