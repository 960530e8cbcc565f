use Rattle.std.proofs.Common.{[], ◌++◌, subst, sym, append-nil}
use Rattle.html_links.specs.Links.{Links, links_of_body}
use Rattle.html_links.specs.Scanning.{scanned}
use Rattle.page_links.specs.Rewriting.{AreChanged}
use Rattle.page_links.proofs.Placing.{anew_at}
use Rattle.page_links.proofs.rewriter.rewrite.Goals as goal

pub returns-then-branch-clause-kept : goal.returns-then-branch-clause-kept
returns-then-branch-clause-kept g c =
    let at = c.in_ok-write.ensures c.args.syntax c.new-writer.ensures.stands in
    anew_at (g.P.PageChange.becomes c.args.changes.now) c.args.syntax c.args.page.now (c.write.new.self.out.items ++ []) c.write.new.self.out.items (append-nil c.write.new.self.out.items) at.anew

pub returns-then-branch-clause-links : goal.returns-then-branch-clause-links
returns-then-branch-clause-links g c =
    let at = c.in_ok-write.ensures c.args.syntax c.new-writer.ensures.stands in
    let changes = g.P.PageChange.becomes c.args.changes.now in
    let known = g.P.PageChange.known c.args.changes.now in
    subst (λ (old : Links). AreChanged changes known old (links_of_body c.args.syntax c.write.new.self.out.items)) c.requires
    (subst (λ (new : Links). AreChanged changes known (scanned c.args.found.now) new) (c.in_ok-new.ensures.ok c.args.syntax c.write.new.self.out.items at.stands) (c.in_ok-are_changed.ensures.changed c.if-branch.true))

pub returns-else-branch-clause-refused : goal.returns-else-branch-clause-refused
returns-else-branch-clause-refused g c =
    let at = c.in_ok-write.ensures c.args.syntax c.new-writer.ensures.stands in
    let changes = g.P.PageChange.becomes c.args.changes.now in
    let known = g.P.PageChange.known c.args.changes.now in
    let out = c.write.new.self.out.items in
    record {
      written = out;
      anew = anew_at changes c.args.syntax c.args.page.now (out ++ []) out (append-nil out) at.anew;
      differs = λ h. c.in_ok-are_changed.ensures.differ c.if-branch.false
          (subst (λ (old : Links). AreChanged changes known old (scanned c.in_ok-new.new)) (sym c.requires)
          (subst (λ (new : Links). AreChanged changes known (links_of_body c.args.syntax c.args.page.now) new) (sym (c.in_ok-new.ensures.ok c.args.syntax out at.stands)) h));
    }
