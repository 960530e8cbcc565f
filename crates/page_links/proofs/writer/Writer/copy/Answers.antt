use Rattle.std.proofs.Common.{ℕ, List, ◌++◌, ◌∙◌, sym, ap₂}
use Rattle.std.proofs.lemmas.List.{take-append-drop}
use Rattle.page_links.proofs.Placing.{copied}
use Rattle.page_links.proofs.writer.Writer.copy.Goals as goal

pub returns-clause-at : goal.returns-clause-at
returns-clause-at g c = λ syntax page at.
    copied (g.P.PageChange.becomes c.args.changes.now) syntax page c.args.self.now.scanner c.put.new.self.scanner c.args.self.now.out.items c.put.new.self.out.items c.args.left.now
    c.split_at.result.0.now c.split_at.result.1.now
    (sym (take-append-drop c.run_len.result c.args.left.now) ∙ ap₂ (λ (xs ys : List ℕ). xs ++ ys) (sym c.split_at.ensures.front) (sym c.split_at.ensures.back))
    c.in_ok-put.ensures.out (c.in_ok-put.ensures.stands syntax) at
