-- One more entry says what the next held address is.
use Rattle.std.proofs.Common.{◌≡◌, ◌+◌, map, ap, sym, subst, ◌∙◌, List, take, arith}
use Rattle.std.specs.Prelude.{All}
use Rattle.std.proofs.lemmas.List.Elements.{All-push}
use Rattle.harvest.specs.Entries.{said_by, IsPlaceOf}
use Rattle.harvest.specs.declared.entry.HarvestEntry.{HarvestEntry}
use Rattle.harvest.proofs.GatherLaws.{seen_lent, said_more}
use Rattle.harvest.proofs.gathering.entries_of.Goals as goal

pub loop-address-preserved : goal.loop-address-preserved
loop-address-preserved c =
    let i = c.loop-address.address-index in
    let held = c.args.held.now in
    record {
      said = subst (λ (entries : List HarvestEntry). map said_by entries ≡ map seen_lent (take (i + 1) held)) (sym c.in_ok-push.ensures.items)
          (said_more c.loop-address.entries.items c.in_ok-entry.entry held i c.loop-address-item.result (omega arith) c.loop-address.invariant.said
          (c.in_ok-entry.ensures.said ∙ ap seen_lent c.loop-address-item.is));
      places = subst (λ (entries : List HarvestEntry). All (λ (entry : HarvestEntry). IsPlaceOf c.args.records.now entry.address entry.answer) entries) (sym c.in_ok-push.ensures.items)
          (All-push (λ (entry : HarvestEntry). IsPlaceOf c.args.records.now entry.address entry.answer) c.loop-address.entries.items c.in_ok-entry.entry c.loop-address.invariant.places c.in_ok-entry.ensures.place);
    }
