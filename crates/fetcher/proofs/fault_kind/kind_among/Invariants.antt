-- No row before this one has the word.
use Rattle.std.proofs.Common.{◌≢◌}
use Rattle.std.specs.Prelude.{All, map, take}
use Rattle.fetcher.proofs.fault_kind.kind_among.Given as goal

abbrev pub invariant-loop-row : goal.invariant-loop-row
invariant-loop-row l = All (λ text. l.fn.word ≢ text) (map (λ row. row.word.now) (take l.row-index l.rows))
