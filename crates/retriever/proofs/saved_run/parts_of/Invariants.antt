-- What was added, and the notes of the fetchers that are left, are all.
use Rattle.std.proofs.Common.{◌≡◌, ◌++◌, drop}
use Rattle.std.specs.List.{flat_map}
use Rattle.site_records.specs.WrittenRecords.{all_noted}
use Rattle.retriever.proofs.saved_run.parts_of.Given as goal

abbrev pub invariant-loop-fetcher : goal.invariant-loop-fetcher
invariant-loop-fetcher g l = all_noted l.parts.items ++ flat_map g.F.Recording.noted (drop l.fetcher-index l.fetchers) ≡ l.given ++ flat_map g.F.Recording.noted l.fetchers
