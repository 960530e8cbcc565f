use Rattle.std.proofs.Common.{ap, ◌∙◌}
use Rattle.css_links.specs.Rewriting.{rewrite_fed}
use Rattle.css_links.specs.Scanning.{RewriteProgress, rewrite_of}
use Rattle.css_links.proofs.Taking.{piece_more}
use Rattle.css_links.proofs.sheet_rewriter.SheetRewriter.feed.Goals as goal

pub returns-in-Ok-clause-ok : goal.returns-in-Ok-clause-ok
returns-in-Ok-clause-ok g c = λ sheet taken r. record {
  rewrite =
      piece_more (g.C.Change.becomes c.args.change.now) c.args.self.now.rewrite (rewrite_of c.feed.new.self) sheet c.args.piece.now taken
      (c.in-Ok.ensures ∙ ap (λ (s : RewriteProgress). rewrite_fed (g.C.Change.becomes c.args.change.now) s.rewrite c.args.piece.now) c.self.view_is) r.rewrite;
  working = c.if-self.false;
}
