-- As many as turns, each made by the system.
use Rattle.std.proofs.Common.{◌≡◌, All, length}
use Rattle.retriever.specs.Systems.{settings_of}
use Rattle.retriever.proofs.live_order.recorders_of.Given as goal

abbrev pub invariant-loop : goal.invariant-loop
invariant-loop g l = record {
  count : length l.fetchers.items ≡ l.counter;
  made : All (g.S.System.makes_recorder l.system (settings_of l.order l.is_recording)) l.fetchers.items;
}
