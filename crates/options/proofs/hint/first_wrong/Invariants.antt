-- Those so far are addresses.
use Rattle.std.proofs.Common.{◌≡◌, drop, map}
use Rattle.std.specs.List.{find}
use Rattle.options.specs.Hints.{is_no_start}
use Rattle.options.proofs.hint.first_wrong.Given as goal

abbrev pub invariant-loop-start : goal.invariant-loop-start
invariant-loop-start l = find is_no_start (map (λ start. start.now) l.starts) ≡ find is_no_start (map (λ start. start.now) (drop l.start-index l.starts))
