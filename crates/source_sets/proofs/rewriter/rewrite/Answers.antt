use Rattle.std.proofs.Common.{ℕ, List, ap, sym, subst, ◌∙◌}
use Rattle.source_sets.specs.Sets.{references}
use Rattle.source_sets.specs.Reading.{rewrite_of}
use Rattle.source_sets.specs.Rewriting.{IsAnew}
use Rattle.source_sets.proofs.Cutting.{is_anew}
use Rattle.source_sets.proofs.Keeping.{rewritten_by, references_rewritten}
use Rattle.source_sets.proofs.rewriter.rewrite.Goals as goal

pub returns-clause-set : goal.returns-clause-set
returns-clause-set g c =
    rewritten_by (g.C.Change.becomes c.args.change.now) c.in_ok-finish.field-0.items (rewrite_of c.new-rewriter.result) (rewrite_of c.feed.new.self) c.args.set.now
    c.new-rewriter.ensures c.in_ok-feed.ensures c.in_ok-finish.ensures

pub returns-clause-kept : goal.returns-clause-kept
returns-clause-kept g c =
    subst (λ (out : List ℕ). IsAnew (g.C.Change.becomes c.args.change.now) c.args.set.now out)
    (sym (rewritten_by (g.C.Change.becomes c.args.change.now) c.in_ok-finish.field-0.items (rewrite_of c.new-rewriter.result) (rewrite_of c.feed.new.self) c.args.set.now
    c.new-rewriter.ensures c.in_ok-feed.ensures c.in_ok-finish.ensures))
    (is_anew (g.C.Change.becomes c.args.change.now) c.args.set.now)

pub returns-clause-references : goal.returns-clause-references
returns-clause-references g c = λ writing.
    ap references (rewritten_by (g.C.Change.becomes c.args.change.now) c.in_ok-finish.field-0.items (rewrite_of c.new-rewriter.result) (rewrite_of c.feed.new.self) c.args.set.now
    c.new-rewriter.ensures c.in_ok-feed.ensures c.in_ok-finish.ensures)
    ∙ references_rewritten (g.C.Change.becomes c.args.change.now) writing c.args.set.now
