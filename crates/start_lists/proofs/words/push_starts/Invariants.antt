-- The words so far.
use Rattle.std.proofs.Common.{◌≡◌, ◌++◌, map, string_bytes, take}
use Rattle.start_lists.proofs.words.push_starts.Given as goal

abbrev pub invariant-loop-start : goal.invariant-loop-start
invariant-loop-start l = map string_bytes l.all.items ≡ map string_bytes l.initial.all.items ++ take l.start-index l.starts
