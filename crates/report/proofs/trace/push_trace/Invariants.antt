-- The text has gained the lines of the events so far.
use Rattle.std.proofs.Common.{◌≡◌, ◌++◌, string_bytes, take}
use Rattle.report.specs.Trace.{trace_text}
use Rattle.report.proofs.trace.push_trace.Given as goal

abbrev pub invariant-loop-event : goal.invariant-loop-event
invariant-loop-event l = string_bytes l.text ≡ string_bytes l.initial.text ++ trace_text (take l.event-index l.trace)
