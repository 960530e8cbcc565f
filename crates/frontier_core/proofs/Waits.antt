-- While others are at work no permit is given and nothing is spread: what comes next is an answer, rules, a permit
-- that is given up, or a stop.
use Rattle.std.proofs.Common.{◌≡◌, ◌↔◌, Bool, true, false, not, refl}
use Rattle.std.specs.Prelude.{IsTrue}
use Rattle.frontier_core.specs.Routes.{Policy}
use Rattle.frontier_core.specs.Machine.{State, TakePage, TakeRules, Answer, Rule, Spread, Part, Abandon, AbandonRules, Stop}
use Rattle.frontier_core.specs.Waits.{IsHeldUp}
use Rattle.frontier_core.specs.inner.Waits.{IsBusy}

pub held_up : (p : Policy) (s : State) → IsBusy p s → IsHeldUp p s
held_up p s (running, spread, rules, page, left) (TakePage w u) next (going, room, (d, waits, is)) = absurd (page (u, d, waits, room))
held_up p s (running, spread, rules, page, left) (TakeRules w o) next (going, room, fresh, parked, is) = absurd (rules (o, parked, fresh, room))
held_up p s busy (Answer w u x) next step = refl
held_up p s busy (Rule w o told) next step = refl
held_up p s (running, spread, rules, page, left) (Spread d u k) next (going, x, due, many, few, is) = absurd (spread (u, d, (x, due)))
held_up p s (running, spread, rules, page, left) (Part d u k) next (going, x, due, many, few, is) = absurd (spread (u, d, (x, due)))
held_up p s busy (Abandon w u cause) next step = refl
held_up p s busy (AbandonRules w o cause) next step = refl
held_up p s busy (Stop cause) next step = refl

-- ---- whether it is busy

-- a No, if it isn't so
pub said_no : {Q : Type 0} → (Q → ⊥) → IsTrue false ↔ Q
said_no never = (λ is. let wrong : false ≡ true = is in cc, λ q. absurd (never q))

-- a Yes just unless something holds
pub said_unless : {P Q : Type 0} (b : Bool) → IsTrue b ↔ P → ((P → ⊥) → Q) → (Q → P → ⊥) → IsTrue (not b) ↔ Q
said_unless true told unless but = (λ is. let wrong : false ≡ true = is in cc, λ q. absurd (but q (told.0 refl)))
said_unless false told unless but = (λ is. unless (λ p. let wrong : false ≡ true = told.1 p in cc), λ q. refl)
