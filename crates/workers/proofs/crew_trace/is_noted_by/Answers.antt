use Rattle.workers.proofs.crew_trace.is_noted_by.Goals as goal

pub is_page_by-requires : goal.is_page_by-requires
is_page_by-requires g c = rw c.deref.ensures.value c.requires.pages

pub are_rules_by-requires : goal.are_rules_by-requires
are_rules_by-requires g c = rw c.deref-in-Rules.ensures.value c.requires.rules

pub returns-in-Page : goal.returns-in-Page
returns-in-Page g c = rw c.in-Page.is (rw c.deref.ensures.value at c.is_page_by.ensures)

pub returns-in-Rules : goal.returns-in-Rules
returns-in-Rules g c = rw c.in-Rules.is (rw c.deref-in-Rules.ensures.value at c.are_rules_by.ensures)
