-- The lines are those of the rejected links.
use Rattle.std.proofs.Common.{◌≡◌, ◌∙◌, ◌++◌, [], ℕ, List, map, ap, sym, subst, arith, append-nil}
use Rattle.std.specs.Prelude.{All, Contains}
use Rattle.std.specs.List.{flat_map}
use Rattle.std.proofs.lemmas.List.Folds.{flat_map-map}
use Rattle.frontier_core.specs.Readers.{Recorded}
use Rattle.harvest.specs.declared.entry.HarvestEntry.{HarvestEntry}
use Rattle.rejected_links.specs.declared.rejected_link.RejectedLink.{RejectedLink}
use Rattle.rejected_links.specs.Lines.{Rejected, line_text, header}
use Rattle.rejected_links.specs.Rejections.{found_addresses}
use Rattle.rejected_links.specs.inner.Links.{seen, IsOfAddresses}
use Rattle.rejected_links.specs.inner.Found.{rejected_in}
use Rattle.rejected_links.proofs.FoundLaws.{rejected_is}
use Rattle.rejected_links.proofs.log.rejected_log.Goals as goal

pub returns-in_default : goal.returns-in_default
returns-in_default g c = record {
  links = [];
  whole = c.in_ok-text.ensures.ok ∙ sym (append-nil header);
  rejected = λ link. ((λ among. absurd (omega (arith, among.1))), (λ of. let no = c.in_default.ensures in let yes = of.planned in cc));
  ascending = λ i j d lt lj. absurd (omega arith);
}

pub returns : goal.returns
returns g c =
    let h = c.args.harvest.now in
    let plan = c.in-Some.plan.now in
    let links = c.in_ok-links.links.items in
    let same : rejected_in plan (found_addresses c.entries.result.now) c.records.result.now ≡ rejected_in plan (found_addresses h.entries) h.records =
    ap (λ (entries : List HarvestEntry). rejected_in plan (found_addresses entries) c.records.result.now) c.entries.ensures.value
    ∙ ap (λ (records : List Recorded). rejected_in plan (found_addresses h.entries) records) c.records.ensures.value in
    record {
      links = map seen links;
      whole = c.in_ok-push_lines.ensures.ok ∙ ap (λ (t : List ℕ). t ++ flat_map (λ link. line_text (seen link)) c.as_slice.result.now) c.in_ok-text.ensures.ok
          ∙ ap (λ (ls : List RejectedLink). header ++ flat_map (λ link. line_text (seen link)) ls) c.as_slice.ensures.value
          ∙ ap (λ (t : List ℕ). header ++ t) (sym (flat_map-map line_text seen links));
      rejected = λ link. (
        λ among. (rejected_is h plan c.in-Some.ensures link).0 (subst (λ (rs : List Rejected). Contains rs link) same ((c.in_ok-links.ensures.same link).0 among)),
        λ of. (c.in_ok-links.ensures.same link).1 (subst (λ (rs : List Rejected). Contains rs link) (sym same) ((rejected_is h plan c.in-Some.ensures link).1 of)),
      );
      ascending = c.in_ok-links.ensures.sorted (subst (λ (ls : List RejectedLink). All IsOfAddresses ls) c.as_slice.ensures.value c.in_ok-push_lines.ensures.addresses);
    }
