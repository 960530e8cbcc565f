use Rattle.std.proofs.Common.{◌∙◌, sym, refl}
use Rattle.address.specs.Address.{origin_of}
use Rattle.frontier_core.specs.inner.TableCalls.{key_numbered}
use Rattle.frontier_core.proofs.Options.{some_of, none_of, tested_some, tested_not}
use Rattle.frontier_core.proofs.Waits.{said_no, said_unless}
use Rattle.frontier_core.proofs.frontier.Frontier.is_busy.Goals as goal

pub returns-then-is_some : goal.returns-then-is_some
returns-then-is_some c =
    let some = some_of c.cause.result c.is_some.result c.is_some.ensures c.if-is_some.true in
    rw (← c.self.view_is) (λ worker. said_no (λ takes. let is = some.1 in let cause = c.cause.ensures in let none = takes.0 in cc))

pub returns-then-is_some-2 : goal.returns-then-is_some-2
returns-then-is_some-2 c =
    let due = tested_some c.find_due.result _ c.is_some-2.result c.is_some-2.ensures c.if-is_some-2.true c.find_due.ensures.found in
    rw (← c.self.view_is) (λ worker. said_no (λ takes. takes.1 (key_numbered c.self.inside.board.entries due.0, due.1.1.0, due.1.1.1)))

pub returns-then-is_some-3 : goal.returns-then-is_some-3
returns-then-is_some-3 c =
    let found = tested_some c.find_rules.result _ c.is_some-3.result c.is_some-3.ensures c.if-is_some-3.true c.find_rules.ensures.found in
    let u = key_numbered c.self.inside.board.entries found.0 in
    rw (← c.self.view_is) (λ worker. said_no (λ takes. takes.2 (origin_of u, (u, found.1.1.0, found.1.1.1, refl), found.1.2, found.1.3)))

pub returns-then-is_some-4 : goal.returns-then-is_some-4
returns-then-is_some-4 c =
    let found = tested_some c.find_page.result _ c.is_some-4.result c.is_some-4.ensures c.if-is_some-4.true c.find_page.ensures.found in
    let u = key_numbered c.self.inside.board.entries found.0 in
    rw (← c.self.view_is) (λ worker. said_no (λ takes. takes.3 (u, found.1.1.0, found.1.1.1, found.1.2)))

pub returns : goal.returns
returns c =
    rw (← c.self.view_is) (λ worker. said_unless c.is_quiet.result c.is_quiet.ensures (λ awake. (
      sym c.cause.ensures ∙ none_of c.cause.result c.is_some.result c.is_some.ensures c.if-is_some.false,
      (λ (u, d, due). tested_not c.find_due.result _ c.is_some-2.result c.is_some-2.ensures c.if-is_some-2.false c.find_due.ensures.none u d due),
      tested_not c.find_rules.result _ c.is_some-3.result c.is_some-3.ensures c.if-is_some-3.false c.find_rules.ensures.none,
      tested_not c.find_page.result _ c.is_some-4.result c.is_some-4.ensures c.if-is_some-4.false c.find_page.ensures.none,
      awake,
      refl,
    )) (λ takes. takes.4))
