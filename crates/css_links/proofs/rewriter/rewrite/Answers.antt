use Rattle.std.proofs.Common.{ℕ, List, ap, sym, subst, ◌∙◌}
use Rattle.css_links.specs.References.{references}
use Rattle.css_links.specs.Rewriting.{IsAnew}
use Rattle.css_links.specs.Scanning.{rewrite_of}
use Rattle.css_links.proofs.Keeping.{rewritten_by, references_rewritten}
use Rattle.css_links.proofs.Cutting.{is_anew}
use Rattle.css_links.proofs.rewriter.rewrite.Goals as goal

pub returns-clause-sheet : goal.returns-clause-sheet
returns-clause-sheet g c =
    rewritten_by (g.C.Change.becomes c.args.change.now) c.in_ok-finish.field-0.items (rewrite_of c.new-rewriter.result) (rewrite_of c.feed.new.self) c.args.sheet.now
    c.new-rewriter.ensures c.in_ok-feed.ensures c.in_ok-finish.ensures

pub returns-clause-kept : goal.returns-clause-kept
returns-clause-kept g c =
    subst (λ (out : List ℕ). IsAnew (g.C.Change.becomes c.args.change.now) c.args.sheet.now out)
    (sym (rewritten_by (g.C.Change.becomes c.args.change.now) c.in_ok-finish.field-0.items (rewrite_of c.new-rewriter.result) (rewrite_of c.feed.new.self) c.args.sheet.now
    c.new-rewriter.ensures c.in_ok-feed.ensures c.in_ok-finish.ensures))
    (is_anew (g.C.Change.becomes c.args.change.now) c.args.sheet.now)

pub returns-clause-references : goal.returns-clause-references
returns-clause-references g c = λ writing.
    ap references (rewritten_by (g.C.Change.becomes c.args.change.now) c.in_ok-finish.field-0.items (rewrite_of c.new-rewriter.result) (rewrite_of c.feed.new.self) c.args.sheet.now
    c.new-rewriter.ensures c.in_ok-feed.ensures c.in_ok-finish.ensures)
    ∙ references_rewritten (g.C.Change.becomes c.args.change.now) writing c.args.sheet.now
