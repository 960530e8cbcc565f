-- The hops so far are short.
use Rattle.std.proofs.Common.{◌≡◌, true, take}
use Rattle.std.specs.List.{list_all}
use Rattle.answer_notes.specs.HopChains.{HopValue}
use Rattle.site_records.specs.WrittenEntries.{is_short}
use Rattle.site_records.proofs.note_entry.are_short.Given as goal

abbrev pub invariant-loop-hop : goal.invariant-loop-hop
invariant-loop-hop l = list_all (λ (h : HopValue). is_short h.1) (take l.hop-index l.hops) ≡ true
