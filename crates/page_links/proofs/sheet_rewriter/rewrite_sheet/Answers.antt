use Rattle.std.proofs.Common.{ℕ, List, sym, subst}
use Rattle.css_links.specs.Rewriting.{IsAnew}
use Rattle.css_links.proofs.Cutting.{is_anew}
use Rattle.html_links.specs.declared.awaiting.ValueForm.TheVariants.{Sheet}
use Rattle.page_links.proofs.sheet_rewriter.rewrite_sheet.Goals as goal

pub returns-then-branch-clause-kept : goal.returns-then-branch-clause-kept
returns-then-branch-clause-kept g c =
    subst (λ (out : List ℕ). IsAnew (g.P.PageChange.becomes c.args.changes.now Sheet) c.args.sheet.now out) (sym c.in_ok-anew.ensures)
    (is_anew (g.P.PageChange.becomes c.args.changes.now Sheet) c.args.sheet.now)
