-- Sorted links of which each is kept once are in the order of their lines, and are those that were listed.
use Rattle.std.proofs.Common.{List, sym, subst}
use Rattle.std.specs.Prelude.{Contains}
use Rattle.std.proofs.lemmas.List.Filters.{dedup_is}
use Rattle.std.proofs.lemmas.List.Kept.{IsStrictlySortedBy-dedup}
use Rattle.rejected_links.specs.contracts.rejected_link.RejectedLinkOrd.TheImpl.Laws.{total-law, matches_eq-law}
use Rattle.rejected_links.specs.contracts.rejected_link.RejectedLinkEq.TheImpl.Laws.{laws-law}
use Rattle.rejected_links.specs.Lines.{Rejected}
use Rattle.rejected_links.specs.inner.Links.{seen}
use Rattle.rejected_links.proofs.LineOrder.{ascending_lines, links_order, links_same}
use Rattle.rejected_links.proofs.ListLaws.{kept_once}
use Rattle.rejected_links.proofs.finding.rejected_links.Goals as goal

pub returns-clause-sorted : goal.returns-clause-sorted
returns-clause-sorted c = λ all.
    ascending_lines _ links_order _ (rw (dedup_is _ _ _ c.dedup.ensures.filtered) (IsStrictlySortedBy-dedup total-law matches_eq-law _ c.sort_unstable.ensures.sorted)) all

pub returns-clause-same : goal.returns-clause-same
returns-clause-same c =
    let kept = kept_once seen laws-law links_same _ _ _ c.sort_unstable.ensures.permutation (dedup_is _ _ _ c.dedup.ensures.filtered) in
    λ link. (
      λ among. subst (λ (links : List Rejected). Contains links link) c.in_ok-links.ensures ((kept link).0 among),
      λ among. (kept link).1 (subst (λ (links : List Rejected). Contains links link) (sym c.in_ok-links.ensures) among),
    )
