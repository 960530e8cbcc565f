use Rattle.std.proofs.Common.{ℕ, List, ◌∙◌, sym, subst}
use Rattle.page_links.specs.Rewriting.{IsAt}
use Rattle.page_links.proofs.Closing.{empty_is}
use Rattle.page_links.proofs.writer.Writer.write.Goals as goal

pub loop-left-preserved : goal.loop-left-preserved
loop-left-preserved g c = λ syntax stands.
    c.in_ok-left.ensures.at syntax c.args.page.now (c.in_ok-rest.ensures.at syntax c.args.page.now (c.loop-left.invariant syntax stands))

pub returns : goal.returns
returns g c = λ syntax stands.
    subst (λ (left : List ℕ). IsAt (g.P.PageChange.becomes c.args.changes.now) syntax c.args.page.now c.loop-left.self.scanner c.loop-left.self.out.items left)
    (empty_is c.loop-left.left.now (sym c.is_empty.ensures ∙ c.loop-left-test.false)) (c.loop-left.invariant syntax stands)
