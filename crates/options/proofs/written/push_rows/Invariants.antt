-- The words of the options so far.
use Rattle.std.proofs.Common.{◌≡◌, ◌++◌, map, string_bytes, take}
use Rattle.std.specs.List.{flat_map}
use Rattle.options.specs.Written.{row_words, value_of}
use Rattle.options.specs.inner.Said.{saying_in}
use Rattle.options.specs.inner.Table.{row_in}
use Rattle.options.proofs.written.push_rows.Given as goal

abbrev pub invariant-loop-row : goal.invariant-loop-row
invariant-loop-row l =
    map string_bytes l.words.items ≡ map string_bytes l.initial.words.items ++ flat_map (λ row. row_words row (value_of (map saying_in l.said) row)) (map row_in (take l.row-index l.rows))
