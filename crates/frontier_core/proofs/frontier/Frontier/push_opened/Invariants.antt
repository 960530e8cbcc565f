use Rattle.std.proofs.Common.{◌≡◌, ◌++◌, map, take}
use Rattle.frontier_core.specs.declared.event.Event.TheVariants as line
use Rattle.frontier_core.proofs.frontier.Frontier.push_opened.Given as goal

abbrev pub invariant-loop-start : goal.invariant-loop-start
invariant-loop-start l = l.trace.items ≡ l.fn.trace.items ++ map (λ start. line.Opened start) (take l.start-index l.starts)
