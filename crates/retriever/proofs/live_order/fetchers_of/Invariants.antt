-- As many as turns, each made by the system.
use Rattle.std.proofs.Common.{◌≡◌, All, false, length}
use Rattle.retriever.specs.Systems.{settings_of}
use Rattle.retriever.proofs.live_order.fetchers_of.Given as goal

abbrev pub invariant-loop : goal.invariant-loop
invariant-loop g l = record {
  count : length l.fetchers.items ≡ l.counter;
  made : All (g.S.System.makes l.system (settings_of l.order false)) l.fetchers.items;
}
