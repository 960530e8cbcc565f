use Rattle.std.proofs.Common.{◌∙◌, ◌∷◌, ℕ, List, ap, sym, drop-cons, get_or, arith}
use Rattle.html_links.proofs.Referencing.{rest_whole}
use Rattle.html_links.proofs.Later.{read_on}
use Rattle.html_links.proofs.lexer.Lexer.read_tag.Goals as goal

pub loop-left-preserved : goal.loop-left-preserved
loop-left-preserved c =
    read_on c.loop-left.self c.step.new.self c.run.new.self _ c.loop-left.left.now _ c.in_ok-left-in-Nothing.left.now _
    (drop-cons c.loop-left.left.now 0 0 (omega (arith, c.in-len1-up.len_at_least)) ∙ ap (λ (others : List ℕ). get_or c.loop-left.left.now 0 0 ∷ others) (sym (rest_whole 1 c.loop-left.left.now)))
    c.in_ok-step.ensures c.in-Nothing.is c.in_ok-left-in-Nothing.ensures.gives
    ∙ c.loop-left.invariant
