use Rattle.std.proofs.Common.{ap, ◌∙◌}
use Rattle.refresh_links.specs.Refresh.{reference_of}
use Rattle.refresh_links.specs.Reading.{rewrite_of}
use Rattle.refresh_links.proofs.Keeping.{rewritten_by, reference_rewritten}
use Rattle.refresh_links.proofs.rewriter.rewrite.Goals as goal

pub returns-clause-content : goal.returns-clause-content
returns-clause-content g c =
    rewritten_by (g.C.Change.becomes c.args.change.now) c.in_ok-finish.field-0.items (rewrite_of c.new-rewriter.result) (rewrite_of c.feed.new.self) c.args.content.now
    c.new-rewriter.ensures c.in_ok-feed.ensures c.in_ok-finish.ensures

pub returns-clause-reference : goal.returns-clause-reference
returns-clause-reference g c = λ writing.
    ap reference_of (rewritten_by (g.C.Change.becomes c.args.change.now) c.in_ok-finish.field-0.items (rewrite_of c.new-rewriter.result) (rewrite_of c.feed.new.self) c.args.content.now
    c.new-rewriter.ensures c.in_ok-feed.ensures c.in_ok-finish.ensures)
    ∙ reference_rewritten (g.C.Change.becomes c.args.change.now) writing c.args.content.now
