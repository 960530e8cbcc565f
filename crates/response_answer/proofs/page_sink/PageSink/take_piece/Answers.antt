-- What the keeper has grows by the piece if the status is one of success.
use Rattle.std.proofs.Common.{◌≡◌, ◌∙◌, ◌++◌, ℕ, List, Some, true, false, sym, subst}
use Rattle.fetcher.specs.Statuses.{is_successful}
use Rattle.response_answer.specs.Sinking.{Sinking, HasSunk}
use Rattle.response_answer.proofs.DigestLemmas.{kept_more, kept_none}
use Rattle.response_answer.proofs.page_sink.PageSink.take_piece.Goals as goal

pub returns-in_ok-add-clause-took : goal.returns-in_ok-add-clause-took
returns-in_ok-add-clause-took g c = λ h body taken.
    let bytes = c.args.bytes.now in
    let t = subst (λ (s : Sinking _). HasSunk g.K.Keeper.begun s (Some h) body) (sym c.self.view_is) taken in
    let stage = c.in_ok-take.ensures h body t.1 in
    let succeeds : is_successful h.status ≡ true = sym (c.keeps_body.ensures h (body ++ bytes) stage) ∙ c.if-keeps_body.true in
    (t.0, stage, subst (λ (l : List ℕ). g.K.Keeper.begun c.add.new.self l) (sym (kept_more h.status body bytes succeeds)) (c.in_ok-add.ensures _ t.2), t.3, t.4, t.5, t.6, t.7)

pub returns-else-keeps_body-clause-took : goal.returns-else-keeps_body-clause-took
returns-else-keeps_body-clause-took g c = λ h body taken.
    let bytes = c.args.bytes.now in
    let t = subst (λ (s : Sinking _). HasSunk g.K.Keeper.begun s (Some h) body) (sym c.self.view_is) taken in
    let stage = c.in_ok-take.ensures h body t.1 in
    let fails : is_successful h.status ≡ false = sym (c.keeps_body.ensures h (body ++ bytes) stage) ∙ c.if-keeps_body.false in
    (t.0, stage, subst (λ (l : List ℕ). g.K.Keeper.begun c.self.inside.keeper l) (sym (kept_none h.status body bytes fails)) t.2, t.3, t.4, t.5, t.6, t.7)
