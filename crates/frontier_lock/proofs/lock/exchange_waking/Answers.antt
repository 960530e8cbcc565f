use Rattle.std.proofs.Common.{◌≡◌, ◌∙◌, false, true, sym}
use Rattle.frontier_lock.proofs.Waits.{slept_if, woken_unless, asleep_still, none_woken}
use Rattle.frontier_lock.proofs.lock.exchange_waking.Goals as goal
use Rattle.frontier_lock.proofs.lock.exchange_waking.Goals.{then-was_busy, else-was_busy}

pub returns-clause-woken : goal.returns-clause-woken
returns-clause-woken c = λ slept none.
    elim c.if-was_busy.branch [
      | then-was_busy w ↦
          asleep_still c.exchange-answer.new.core w.is_busy.result (slept_if c.exchange-answer.new.core w.is_busy.result w.is_busy.ensures) (sym w.result-is ∙ none)
      | else-was_busy w ↦
          (let is : c.is_busy-was_busy.result ≡ true = (slept_if c.args.core.now c.is_busy-was_busy.result c.is_busy-was_busy.ensures).1 slept in
          let idle : c.is_busy-was_busy.result ≡ false = w.if-was_busy.false in
          absurd (cc (is, idle)))
    ]

pub returns-clause-exact : goal.returns-clause-exact
returns-clause-exact c =
    let before = slept_if c.args.core.now c.is_busy-was_busy.result c.is_busy-was_busy.ensures in
    elim c.if-was_busy.branch [
      | then-was_busy w ↦
          rw w.result-is (woken_unless c.args.core.now c.exchange-answer.new.core w.is_busy.result (before.0 w.if-was_busy.true)
          (slept_if c.exchange-answer.new.core w.is_busy.result w.is_busy.ensures))
      | else-was_busy w ↦
          none_woken c.args.core.now c.exchange-answer.new.core c.is_busy-was_busy.result c.if-was_busy.result w.if-was_busy.false
          (let is = w.result-is in let idle = w.if-was_busy.false in cc (is, idle)) before
    ]
