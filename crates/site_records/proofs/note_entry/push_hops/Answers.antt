-- One more hop is added.
use Rattle.site_records.proofs.EntryTextLaws.{hops_grow, told_more}
use Rattle.site_records.proofs.note_entry.push_hops.Goals as goal

pub loop-hop-preserved : goal.loop-hop-preserved
loop-hop-preserved c = record {
  text = hops_grow c.args.hops.now c.loop-hop.hop-index c.hop-item.result c.args.pieces.now c.loop-hop.pieces c.push_received.new.pieces c.loop-hop-test.true c.hop-item.is c.requires c.loop-hop.invariant.text c.in_ok-push_received.ensures.text;
  told = told_more c.args.hops.now c.loop-hop.hop-index c.hop-item.result c.loop-hop-test.true c.hop-item.is c.requires c.loop-hop.invariant.told c.in_ok-push_received.ensures.told;
}
