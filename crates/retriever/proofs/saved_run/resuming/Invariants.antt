-- The fetchers so far, and those that are left, are all.
use Rattle.std.proofs.Common.{◌≡◌, ◌++◌, map}
use Rattle.std.specs.Vec.Iter.{into_iter_items}
use Rattle.retriever.specs.Saving.{resuming_of}
use Rattle.retriever.proofs.saved_run.resuming.Given as goal

abbrev pub invariant-loop-fetcher : goal.invariant-loop-fetcher
invariant-loop-fetcher g l = record {
  can_next : (goal.iterator-loop-fetcher g).can_next l.fetcher-iterator;
  is_finite : (goal.iterator-loop-fetcher g).is_finite l.fetcher-iterator;
  moved : l.all.items ++ map (resuming_of g.F.Fetcher.log l.recorded) (into_iter_items l.fetcher-iterator) ≡ map (resuming_of g.F.Fetcher.log l.recorded) l.fn.fetchers.items;
}
