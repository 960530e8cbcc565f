use Rattle.std.proofs.Common.{◌≡◌, ℕ, List, ◌∷◌, ◌++◌, ap, sym, subst, ◌∙◌}
use Rattle.html_links.specs.Markup.{value_at, valued}
use Rattle.html_links.specs.References.{referenced}
use Rattle.html_links.proofs.Inert.{referenced_escaped, quoted_ends, bare_ends, wholly}
use Rattle.html_links.proofs.escaping.escape.Goals as goal

pub returns-clause-text : goal.returns-clause-text
returns-clause-text c = ap referenced (wholly c.loop-left.value.items c.loop-left.left.now c.args.text.now c.in_default.len_below c.loop-left.invariant) ∙ referenced_escaped c.args.text.now

pub returns-clause-quoted : goal.returns-clause-quoted
returns-clause-quoted c = λ quote rest e.
    subst (λ (v : List ℕ). value_at (quote ∷ (v ++ quote ∷ rest)) ≡ valued v rest)
    (sym (wholly c.loop-left.value.items c.loop-left.left.now c.args.text.now c.in_default.len_below c.loop-left.invariant)) (quoted_ends c.args.text.now quote rest e)

pub returns-clause-bare : goal.returns-clause-bare
returns-clause-bare c = λ n end rest e.
    subst (λ (v : List ℕ). value_at (v ++ end ∷ rest) ≡ valued v (end ∷ rest))
    (sym (wholly c.loop-left.value.items c.loop-left.left.now c.args.text.now c.in_default.len_below c.loop-left.invariant)) (bare_ends c.args.text.now n end rest e)
