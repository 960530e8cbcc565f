use Rattle.std.proofs.Common.{◌≡◌, ◌∙◌, sym, ap, length, drop, arith, rules}
use Rattle.std.proofs.lemmas.List.{drop_all}
use Rattle.memory_connect.specs.Talks.{answer_to}
use Rattle.memory_connect.proofs.TalkLemmas.{asked, passed}
use Rattle.memory_connect.proofs.memory_connect.answer_to.Goals as goal

pub loop-stored-preserved : goal.loop-stored-preserved
loop-stored-preserved c =
    sym (passed c.args.answers.now c.args.request.now c.loop-stored.stored-index _ c.stored-item.result _
    c.loop-stored-test.true c.stored-item.is c.in_ok-is_asked.ensures cc)
    ∙ c.loop-stored.invariant

pub returns-then-branch : goal.returns-then-branch
returns-then-branch c =
    let told : c.as_slice.result.now ≡ c.stored-item.result.bytes.items = search rules in
    told ∙ sym (asked c.args.answers.now c.args.request.now c.loop-stored.stored-index _ c.stored-item.result _
    c.loop-stored-test.true c.stored-item.is c.in_ok-is_asked.ensures cc)
    ∙ c.loop-stored.invariant

pub returns : goal.returns
unfolding answer_to
returns c =
    sym (ap (λ xs. answer_to xs c.args.request.now) (drop_all c.loop-stored.stored-index c.args.answers.now (omega arith)))
    ∙ c.loop-stored.invariant
