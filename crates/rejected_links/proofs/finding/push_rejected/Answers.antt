-- One more edge is rejected, or isn't.
use Rattle.std.proofs.Common.{◌∙◌, ◌∷◌, [], ◌++◌, List, ap, sym, map, arith, append_assoc}
use Rattle.std.proofs.lemmas.List.{map-append}
use Rattle.fetcher.specs.Outcomes.{edges}
use Rattle.rejected_links.specs.Lines.{Rejected}
use Rattle.rejected_links.specs.Rejections.{found_addresses}
use Rattle.rejected_links.specs.inner.Links.{seen}
use Rattle.rejected_links.specs.declared.rejected_link.RejectedLink.{RejectedLink}
use Rattle.rejected_links.proofs.FoundLaws.{more_none, more_some}
use Rattle.rejected_links.proofs.finding.push_rejected.Goals as goal

pub loop-k-preserved-in_default : goal.loop-k-preserved-in_default
loop-k-preserved-in_default c =
    let found = found_addresses c.args.entries.now in
    c.loop-k.invariant
    ∙ ap (λ (links : List Rejected). map seen c.args.links.now.items ++ links)
    (sym (more_none c.args.plan.now found c.args.page.now (edges c.args.outcome.now) c.loop-k.k _ (omega (arith, c.loop-k-test.true, c.edge_count-k-end.ensures)) c.edge-kind.ensures c.in_default.ensures))

pub loop-k-preserved : goal.loop-k-preserved
loop-k-preserved c =
    let found = found_addresses c.args.entries.now in
    let link : Rejected = record { reason = c.in-Some.reason; target = c.edge-kind.result.0.now; page = c.args.page.now } in
    ap (λ (links : List RejectedLink). map seen links) c.in_ok-push.ensures.items
    ∙ map-append seen c.loop-k.links.items _
    ∙ ap (λ (links : List Rejected). links ++ link ∷ []) c.loop-k.invariant
    ∙ append_assoc (map seen c.args.links.now.items) _ (link ∷ [])
    ∙ ap (λ (links : List Rejected). map seen c.args.links.now.items ++ links)
    (sym (more_some c.args.plan.now found c.args.page.now (edges c.args.outcome.now) c.loop-k.k _ c.in-Some.reason (omega (arith, c.loop-k-test.true, c.edge_count-k-end.ensures)) c.edge-kind.ensures c.in-Some.ensures))
