-- The hops so far are added.
use Rattle.std.proofs.Common.{◌≡◌, ◌++◌, take}
use Rattle.std.specs.Prelude.{All, flat_map}
use Rattle.answer_notes.specs.HopChains.{HopValue}
use Rattle.site_records.specs.WrittenEntries.{hop_entry, IsReceivedFor}
use Rattle.site_records.proofs.note_entry.push_hops.Given as goal

abbrev pub invariant-loop-hop : goal.invariant-loop-hop
invariant-loop-hop l = record {
  text : l.pieces ≡ l.fn.pieces ++ flat_map hop_entry (take l.hop-index l.hops);
  told : All (λ (h : HopValue). IsReceivedFor h.0 h.1) (take l.hop-index l.hops);
}
