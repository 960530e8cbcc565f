-- When a worker has to wait for others, and what can come next then.
use Rattle.std.specs.Prelude.{Bool, true, false, IsTrue}
use Rattle.frontier_core.specs.Routes.{Policy}
use Rattle.frontier_core.specs.Machine.{State, Action, TakePage, TakeRules, Answer, Rule, Spread, Part, Abandon, AbandonRules, Stop, Step}

-- the steps that can end a wait: an answer, rules, a permit that is given up, and a stop
abbrev pub ends_waits : Action → Bool
ends_waits (TakePage w u) = false
ends_waits (TakeRules w o) = false
ends_waits (Answer w u x) = true
ends_waits (Rule w o rules) = true
ends_waits (Spread d u k) = false
ends_waits (Part d u k) = false
ends_waits (Abandon w u cause) = true
ends_waits (AbandonRules w o cause) = true
ends_waits (Stop cause) = true

-- whichever step comes next, it is one that can end a wait
abbrev pub IsHeldUp : Policy → State → Type 0
IsHeldUp p s = (action : Action) (next : State) → Step p s action next → IsTrue (ends_waits action)
