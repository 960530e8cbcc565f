-- What is kept grows by the piece if the status is one of success.
use Rattle.std.proofs.Common.{◌≡◌, ◌∙◌, ◌++◌, ℕ, List, Some, true, false, sym, ap, subst}
use Rattle.fetcher.specs.Statuses.{is_successful}
use Rattle.response_answer.specs.Digesting.{Digesting, HasTaken}
use Rattle.response_answer.proofs.DigestLemmas.{kept_more, kept_none}
use Rattle.response_answer.proofs.digester.Digester.take_piece.Goals as goal

pub returns-in_ok-extend_from_slice-clause-took : goal.returns-in_ok-extend_from_slice-clause-took
returns-in_ok-extend_from_slice-clause-took c = λ h body taken.
    let bytes = c.args.bytes.now in
    let t = subst (λ (d : Digesting). HasTaken d (Some h) body) (sym c.self.view_is) taken in
    let stage = c.in_ok-take.ensures h body t.1 in
    let succeeds : is_successful h.status ≡ true = sym (c.keeps_body.ensures h (body ++ bytes) stage) ∙ c.if-keeps_body.true in
    (t.0, stage, c.in_ok-extend_from_slice.ensures.items ∙ ap (λ (l : List ℕ). l ++ bytes) t.2 ∙ sym (kept_more h.status body bytes succeeds), t.3)

pub returns-else-keeps_body-clause-took : goal.returns-else-keeps_body-clause-took
returns-else-keeps_body-clause-took c = λ h body taken.
    let bytes = c.args.bytes.now in
    let t = subst (λ (d : Digesting). HasTaken d (Some h) body) (sym c.self.view_is) taken in
    let stage = c.in_ok-take.ensures h body t.1 in
    let fails : is_successful h.status ≡ false = sym (c.keeps_body.ensures h (body ++ bytes) stage) ∙ c.if-keeps_body.false in
    (t.0, stage, t.2 ∙ sym (kept_none h.status body bytes fails), t.3)
