use Rattle.std.proofs.Common.{ℕ, List, sym, subst}
use Rattle.html_links.specs.Scanning.{StandsFor}
use Rattle.page_links.proofs.writer.Writer.put.Goals as goal

pub returns-clause-stands : goal.returns-clause-stands
returns-clause-stands c = λ syntax stands.
    subst (λ (out : List ℕ). StandsFor syntax c.feed.new.self out) (sym c.in_ok-extend_from_slice.ensures.items)
    (c.in_ok-feed.ensures.ok syntax c.args.self.now.out.items stands)
