-- What was received over connections is what the site may answer.
use Rattle.std.proofs.Common.{ℕ, zero, suc, List, inl, inr}
use Rattle.kept_bodies.specs.Bodies.{BodyValue}
use Rattle.address.specs.Address.{AddressText}
use Rattle.robots_rules.specs.Access.{RuleSetValue}
use Rattle.response_reader.specs.Limits.{Limited}
use Rattle.response_reader.specs.declared.wire.Wire.{Ghosts as Wires}
use Rattle.fetcher.specs.declared.answer.Answer.{Answer}
use Rattle.fetcher.specs.declared.outcome.Outcome.{Outcome}
use Rattle.connect.specs.declared.connect.Connect.{Ghosts as Connects}
use Rattle.http_fetcher.specs.Chains.{IsChain}
use Rattle.http_fetcher.specs.Fetching.{AnsweredOnNew, AnsweredWithRetry, AnswersBytes, ComesOver, Fetching, IsGiven, Question, question_of}
use Rattle.http_fetcher.specs.Meanings.{MayAnswerWithin}

-- what bytes say may be answered
may_answer_bytes : (question : Question) (before after : ℕ) (answer : Answer BodyValue) (bytes : List ℕ)
    → AnswersBytes question before after answer bytes → MayAnswerWithin question.limits question.links question.at answer.outcome answer.body
may_answer_bytes question before after answer bytes (inl digest) = inl (bytes, digest)
may_answer_bytes question before after answer bytes (inr (fault, kind, is, has, risen, outcome, none)) =
    inr (inl (bytes, (fault, kind, is, has, (outcome, none))))

-- what comes over a wire may be answered
may_answer_over : {W : Type 0} (wires : Wires W) (question : Question) (given : W) (answer : Answer BodyValue)
    → ComesOver wires question given answer → MayAnswerWithin question.limits question.links question.at answer.outcome answer.body
may_answer_over wires question given answer (asked, left, inl unwritten) = inr (inr (inr (unwritten.1, unwritten.2)))
may_answer_over wires question given answer (asked, left, inr (sent, silent, (bytes, tells, answers))) =
    may_answer_bytes question (wires.failed asked) (wires.failed left) answer bytes answers

-- a chain of received answers is one under any relation that contains them
chain_of_more : (Says More : AddressText → Outcome → BodyValue → Type 0) (n : ℕ) (at : AddressText) (rules : RuleSetValue)
    → ((at : AddressText) (x : Outcome) (body : BodyValue) → Says at x body → More at x body) → IsChain Says n at rules → IsChain More n at rules
unfolding IsChain
chain_of_more Says More zero at rules more (x, body, told, says) = (x, body, more at x body told, says)
chain_of_more Says More (suc n) at rules more (x, body, told, inl ends) = (x, body, more at x body told, inl ends)
chain_of_more Says More (suc n) at rules more (x, body, told, inr (next, on, rest)) =
    (x, body, more at x body told, inr (next, on, chain_of_more Says More n next rules more rest))

module _ {C W : Type 0} (connects : Connects C W) (wires : Wires W) (limits : Limited) where
  -- what was received over a connection, or that none was made, may be answered
  pub may_answer_anew : (old new : Fetching C) (at : AddressText) (answer : Answer BodyValue)
      → AnsweredOnNew connects wires limits old new at answer → MayAnswerWithin limits old.links at answer.outcome answer.body
  may_answer_anew old new at answer (inl unmade) = inr (inr (inl (unmade.1, unmade.2)))
  may_answer_anew old new at answer (inr (given, gave, over)) = may_answer_over wires (question_of limits old at) given answer over

  -- what was received, over a connection that was kept or a new one, may be answered
  pub may_answer : (old new : Fetching C) (at : AddressText) (answer : Answer BodyValue)
      → AnsweredWithRetry connects wires limits old new at answer → MayAnswerWithin limits old.links at answer.outcome answer.body
  may_answer old new at answer (inl (made, taken, holds, counts, (given, gave, over))) = may_answer_over wires (question_of limits old at) given answer over
  may_answer old new at answer (inr (made, before, told)) = may_answer_anew old new at answer told

  -- the rules at the end of a chain over connections are rules that the origin may have
  pub may_rule : (fetcher : Fetching C) (n : ℕ) (at : AddressText) (rules : RuleSetValue)
      → IsChain (IsGiven connects wires limits fetcher) n at rules → IsChain (MayAnswerWithin limits fetcher.links) n at rules
  may_rule fetcher n at rules chain =
      chain_of_more (IsGiven connects wires limits fetcher) (MayAnswerWithin limits fetcher.links) n at rules
      (λ at x body given. may_answer (record fetcher { connect = given.0 }) (record fetcher { connect = given.1 }) at (record { outcome = x; body = body }) given.2) chain
