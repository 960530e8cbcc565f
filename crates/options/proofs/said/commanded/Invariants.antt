-- The commands so far have another name.
use Rattle.std.proofs.Common.{◌≡◌, drop, map}
use Rattle.options.specs.Said.{commanded}
use Rattle.options.specs.inner.Table.{command_in}
use Rattle.options.proofs.said.commanded.Given as goal

abbrev pub invariant-loop-command : goal.invariant-loop-command
invariant-loop-command l = commanded l.key l.value (map command_in l.commands) ≡ commanded l.key l.value (map command_in (drop l.command-index l.commands))
