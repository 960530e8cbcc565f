use Rattle.std.proofs.Common.{ℕ, List, ◌++◌, ◌∙◌, ap₂}
use Rattle.page_links.proofs.Placing.{one_anew}
use Rattle.page_links.proofs.writer.Writer.write_value.Goals as goal

pub returns-clause-at : goal.returns-clause-at
returns-clause-at g c = λ syntax page at.
    let written = rw c.in-Some-2.is at c.in_ok-value.ensures in
    one_anew (g.P.PageChange.becomes c.args.changes.now) syntax page c.args.self.now.scanner c.put-2.new.self.scanner c.args.self.now.out.items c.put-2.new.self.out.items c.args.left.now
    c.in-Some.cut.quote.now c.in-Some.cut.value.now c.in-Some.cut.end.now c.in-Some-2.value.items c.args.form c.requires c.in-Some.ensures written
    (c.in_ok-put-2.ensures.out ∙ ap₂ (λ (xs ys : List ℕ). xs ++ ys) c.in_ok-put.ensures.out c.deref.ensures.value)
    (λ stands. c.in_ok-put-2.ensures.stands syntax (c.in_ok-put.ensures.stands syntax stands)) at
