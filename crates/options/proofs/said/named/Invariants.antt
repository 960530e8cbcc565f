-- The options so far have another name.
use Rattle.std.proofs.Common.{◌≡◌, drop, map, option_map}
use Rattle.options.specs.Said.{named}
use Rattle.options.specs.inner.Table.{row_in}
use Rattle.options.proofs.said.named.Given as goal

abbrev pub invariant-loop-row : goal.invariant-loop-row
invariant-loop-row l =
    named l.name (option_map (λ v. v.now) l.value) (map row_in l.rows) ≡ named l.name (option_map (λ v. v.now) l.value) (map row_in (drop l.row-index l.rows))
