use Rattle.std.proofs.Common.{ap, ◌∙◌}
use Rattle.css_links.specs.Rewriting.{rewrite_ended}
use Rattle.css_links.specs.Scanning.{RewriteProgress}
use Rattle.css_links.proofs.Taking.{rest_taken}
use Rattle.css_links.proofs.sheet_rewriter.SheetRewriter.finish.Goals as goal

pub returns-clause-ok : goal.returns-clause-ok
returns-clause-ok g c = λ sheet taken r.
    rest_taken (g.C.Change.becomes c.args.change.now) c.args.self.rewrite sheet taken c.in_ok-finish.field-0.items
    (c.in_ok-finish.ensures ∙ ap (λ (s : RewriteProgress). rewrite_ended (g.C.Change.becomes c.args.change.now) s.rewrite) c.self.view_is) r.rewrite
