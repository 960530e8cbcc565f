-- Each line is of one of three shapes, and its text is the address, the origin or the word of the event.
use Rattle.report.proofs.trace.push_event.Goals as goal

pub returns-in-Opened : goal.returns-in-Opened
returns-in-Opened c = record { ok = rw c.in-Opened.is (rw c.as_str.ensures.value at c.push_word.ensures.ok) }

pub returns-in-Page : goal.returns-in-Page
returns-in-Page c = record { ok = rw c.in-Page.is (rw c.as_str-in-Page.ensures.value at c.push_worker_event.ensures.ok) }

pub returns-in-Rules : goal.returns-in-Rules
returns-in-Rules c = record { ok = rw c.in-Rules.is (rw c.as_str-in-Rules.ensures.value at c.push_worker_event-in-Rules.ensures.ok) }

pub returns-in-Answer : goal.returns-in-Answer
returns-in-Answer c = record { ok = rw c.in-Answer.is (rw c.as_str-in-Answer.ensures.value at c.push_worker_event-in-Answer.ensures.ok) }

pub returns-in-Ruled : goal.returns-in-Ruled
returns-in-Ruled c = record { ok = rw c.in-Ruled.is (rw c.as_str-in-Ruled.ensures.value at c.push_worker_event-in-Ruled.ensures.ok) }

pub returns-in-Spread : goal.returns-in-Spread
returns-in-Spread c = record { ok = rw c.in-Spread.is (rw c.as_str-in-Spread.ensures.value at c.push_edges.ensures.ok) }

pub returns-in-Part : goal.returns-in-Part
returns-in-Part c = record { ok = rw c.in-Part.is (rw c.as_str-in-Part.ensures.value at c.push_edges-in-Part.ensures.ok) }

pub returns-in-Abandon : goal.returns-in-Abandon
returns-in-Abandon c = record { ok = rw c.in-Abandon.is (rw c.as_str-in-Abandon.ensures.value at c.push_worker_event-in-Abandon.ensures.ok) }

pub returns-in-AbandonRules : goal.returns-in-AbandonRules
returns-in-AbandonRules c = record { ok = rw c.in-AbandonRules.is (rw c.as_str-in-AbandonRules.ensures.value at c.push_worker_event-in-AbandonRules.ensures.ok) }

pub returns-in-Stop : goal.returns-in-Stop
returns-in-Stop c = record { ok = rw c.in-Stop.is (rw c.cause_word.ensures at c.push_word-in-Stop.ensures.ok) }
