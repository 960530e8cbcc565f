-- What is taken is what the text says, and it says one thing.
use Rattle.std.proofs.Common.{◌∙◌, ap}
use Rattle.earlier_answers.specs.Sayings.{answered, chained, with_saying}
use Rattle.earlier_answers.proofs.TextLaws.{one_chain}
use Rattle.earlier_answers.proofs.earlier_answers.EarlierAnswers.add.Goals as goal

pub returns-in-Some-clause-taken : goal.returns-in-Some-clause-taken
returns-in-Some-clause-taken c = λ _.
    (answered c.in-Some.at c.in-Some.outcome, rw c.in-Some.is at c.in_ok-at.ensures.is, c.in_ok-keep_answer.ensures.ok)

pub returns-clause-taken : goal.returns-clause-taken
returns-clause-taken c = λ _.
    (chained c.in-Some-2.chain, rw c.in-Some-2.is at c.in_ok-chain.ensures, c.in_ok-keep_chain.ensures.ok)

pub returns-clause-only : goal.returns-clause-only
returns-clause-only c (answered at outcome) says _ =
    let none = c.in_ok-at.ensures.back at outcome says.0.0 says.0.1 says.1 in
    absurd (let is = c.in_default.is in cc)
returns-clause-only c (chained d) says _ =
    let read = rw c.in-Some-2.is at c.in_ok-chain.ensures in
    let same = one_chain d c.in-Some-2.chain c.args.text.now says.0 read.0 says.1 read.1 in
    c.in_ok-keep_chain.ensures.ok ∙ ap (λ d. with_saying c.args.self.now (chained d)) same
