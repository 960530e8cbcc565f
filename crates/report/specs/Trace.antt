-- The trace as it is printed: a line for each event, in order.
use Rattle.std.specs.Prelude.{ℕ, List, ◌++◌, codes}
use Rattle.std.specs.Fmt.{decimal}
use Rattle.std.specs.List.{flat_map}
use Rattle.frontier_core.specs.declared.event.Cause.{Cause}
use Rattle.frontier_core.specs.declared.event.Cause.TheVariants as cause
use Rattle.frontier_core.specs.declared.event.Event.{Event}
use Rattle.frontier_core.specs.declared.event.Event.TheVariants as line

-- the word for why a frontier stopped
abbrev pub cause_word : Cause → List ℕ
cause_word cause.Full = codes "full"
cause_word cause.Memory = codes "memory"
cause_word cause.Mismatch = codes "mismatch"
cause_word cause.Quota = codes "quota"

-- what an event says: who did what, to which address or origin
abbrev pub event_words : Event → List ℕ
event_words (line.Opened start) = codes "opened " ++ start
event_words (line.Page worker address) = codes "page " ++ decimal worker ++ codes " " ++ address
event_words (line.Rules worker origin) = codes "rules " ++ decimal worker ++ codes " " ++ origin
event_words (line.Answer worker address) = codes "answer " ++ decimal worker ++ codes " " ++ address
event_words (line.Ruled worker origin) = codes "ruled " ++ decimal worker ++ codes " " ++ origin
event_words (line.Spread depth address count) = codes "spread " ++ decimal depth ++ codes " " ++ address ++ codes " " ++ decimal count
event_words (line.Part depth address count) = codes "part " ++ decimal depth ++ codes " " ++ address ++ codes " " ++ decimal count
event_words (line.Abandon worker address) = codes "abandon " ++ decimal worker ++ codes " " ++ address
event_words (line.AbandonRules worker origin) = codes "abandon " ++ decimal worker ++ codes " " ++ origin
event_words (line.Stop why) = codes "stop " ++ cause_word why

-- the line of an event
abbrev pub event_text : Event → List ℕ
event_text event = event_words event ++ codes "\n"

-- the lines of a trace
abbrev pub trace_text : List Event → List ℕ
trace_text events = flat_map event_text events
