-- What proofs alone need beside `Takers`.
use Rattle.std.specs.Prelude.{◌≡◌, List, All}
use Rattle.frontier_core.specs.declared.event.Event.{Event}
use Rattle.frontier_core.specs.declared.event.Event.TheVariants as line
use Rattle.workers.specs.declared.note.PageNote.{PageNote}
use Rattle.workers.specs.declared.note.RulesNote.{RulesNote}

-- if the line says that a worker took what is noted, that worker noted it
abbrev pub IsNotedBy : {B : Type 0} → List (PageNote B) → List RulesNote → Event → Type 0
IsNotedBy notes sets (line.Opened start) = Unit {0}
IsNotedBy notes sets (line.Page worker address) = All (λ note. note.address ≡ address → note.worker ≡ worker) notes
IsNotedBy notes sets (line.Rules worker origin) = All (λ note. note.origin ≡ origin → note.worker ≡ worker) sets
IsNotedBy notes sets (line.Answer worker address) = Unit {0}
IsNotedBy notes sets (line.Ruled worker origin) = Unit {0}
IsNotedBy notes sets (line.Spread depth address count) = Unit {0}
IsNotedBy notes sets (line.Part depth address count) = Unit {0}
IsNotedBy notes sets (line.Abandon worker address) = Unit {0}
IsNotedBy notes sets (line.AbandonRules worker origin) = Unit {0}
IsNotedBy notes sets (line.Stop cause) = Unit {0}

-- by the lines each thing was noted by the worker that took it
abbrev pub AreNotedBy : {B : Type 0} → List (PageNote B) → List RulesNote → List Event → Type 0
AreNotedBy notes sets trace = All (IsNotedBy notes sets) trace
