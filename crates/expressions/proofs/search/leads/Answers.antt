-- What a state leads to has its flag.
use Rattle.std.proofs.Common.{◌∙◌, ◌||◌, ◌&&◌, sym, ap}
use Rattle.expressions.specs.inner.Accepting.{accepts}
use Rattle.expressions.proofs.Accepting.{accepts-is, known}
use Rattle.expressions.proofs.search.leads.Goals as goal

pub returns-in-ByteRange : goal.returns-in-ByteRange
returns-in-ByteRange c =
    λ other place alike next below. c.reads.ensures other place alike.byte next ∙ sym (accepts-is c.args.nfa.now other place c.args.state _ (sym c.in-ByteRange.ensures.is))

pub returns-in-Sparse : goal.returns-in-Sparse
returns-in-Sparse c =
    λ other place alike next below. c.reads-in-Sparse.ensures other place alike.byte next ∙ sym (accepts-is c.args.nfa.now other place c.args.state _ (sym c.in-Sparse.ensures.is))

pub returns-then-here-first : goal.returns-then-here-first
returns-then-here-first c =
    λ other place alike next below.
    let first = known c.args.nfa.now other place c.args.here.now c.args.state c.in-Split.first below c.in-Split.ensures.sound.0 in
    c.if-here-first.true
    ∙ sym (accepts-is c.args.nfa.now other place c.args.state _ (sym c.in-Split.ensures.is)
    ∙ ap (λ b. b || accepts c.args.nfa.now other place c.in-Split.second) (sym first ∙ c.if-here-first.true))

pub returns-else-here-first : goal.returns-else-here-first
returns-else-here-first c =
    λ other place alike next below.
    let first = known c.args.nfa.now other place c.args.here.now c.args.state c.in-Split.first below c.in-Split.ensures.sound.0 in
    let second = known c.args.nfa.now other place c.args.here.now c.args.state c.in-Split.second below c.in-Split.ensures.sound.1 in
    second
    ∙ sym (accepts-is c.args.nfa.now other place c.args.state _ (sym c.in-Split.ensures.is)
    ∙ ap (λ b. b || accepts c.args.nfa.now other place c.in-Split.second) (sym first ∙ c.if-here-first.false))

pub returns-in-Save : goal.returns-in-Save
returns-in-Save c =
    λ other place alike next below.
    known c.args.nfa.now other place c.args.here.now c.args.state c.in-Save.to below c.in-Save.ensures.sound.1
    ∙ sym (accepts-is c.args.nfa.now other place c.args.state _ (sym c.in-Save.ensures.is))

pub returns-then-holds : goal.returns-then-holds
returns-then-holds c =
    λ other place alike next below.
    known c.args.nfa.now other place c.args.here.now c.args.state c.in-Look.to below c.in-Look.ensures.sound
    ∙ sym (accepts-is c.args.nfa.now other place c.args.state _ (sym c.in-Look.ensures.is)
    ∙ ap (λ b. b && accepts c.args.nfa.now other place c.in-Look.to) (sym (alike.looks c.args.state c.in-Look.to c.in-Look.look c.requires.state (sym c.in-Look.ensures.is)) ∙ sym c.holds.ensures ∙ c.if-holds.true))

pub returns-else-holds : goal.returns-else-holds
returns-else-holds c =
    λ other place alike next below.
    c.if-holds.false
    ∙ sym (accepts-is c.args.nfa.now other place c.args.state _ (sym c.in-Look.ensures.is)
    ∙ ap (λ b. b && accepts c.args.nfa.now other place c.in-Look.to) (sym (alike.looks c.args.state c.in-Look.to c.in-Look.look c.requires.state (sym c.in-Look.ensures.is)) ∙ sym c.holds.ensures ∙ c.if-holds.false))

pub returns-in-Match : goal.returns-in-Match
returns-in-Match c = λ other place alike next below. sym (accepts-is c.args.nfa.now other place c.args.state _ (sym c.in-Match.ensures.is))

pub returns-in-Fail : goal.returns-in-Fail
returns-in-Fail c = λ other place alike next below. sym (accepts-is c.args.nfa.now other place c.args.state _ (sym c.in-Fail.ensures.is))
