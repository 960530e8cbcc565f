-- A body of success is of the kind that its head says; of any other response none is kept.
use Rattle.std.proofs.Common.{◌≡◌, ◌∙◌, ℕ, List, Some, false, refl, sym, subst}
use Rattle.kept_bodies.specs.Bodies.{BodyValue, no_body}
use Rattle.kept_bodies.specs.declared.body_kind.BodyKind.{BodyKind}
use Rattle.fetcher.specs.Statuses.{is_successful}
use Rattle.response_reader.specs.Fields.{HeadParts}
use Rattle.response_answer.specs.Digests.{body_of, kept_body}
use Rattle.response_answer.specs.Sinking.{Sinking, HasSunk}
use Rattle.response_answer.proofs.DigestLemmas.{if_ok_map}
use Rattle.response_answer.proofs.page_sink.PageSink.finish_body.Goals as goal

nothing : (h : HeadParts) (body : List ℕ) → is_successful h.status ≡ false → body_of h body ≡ no_body
nothing h body fails = rw fails refl

pub returns-then-keeps_body-clause-body : goal.returns-then-keeps_body-clause-body
returns-then-keeps_body-clause-body g c = if_ok_map c.finish.result _ _ c.finish.ensures (λ kept whole h body taken.
    let t = subst (λ (s : Sinking _). HasSunk g.K.Keeper.begun s (Some h) body) (sym c.self.view_is) taken in
    subst (λ (k : BodyKind). g.K.Keeper.holds kept (record { kind = k; bytes = kept_body h.status body })) t.3 (whole (kept_body h.status body) t.2))

pub returns-else-keeps_body-clause-body : goal.returns-else-keeps_body-clause-body
returns-else-keeps_body-clause-body g c = if_ok_map c.empty.result _ _ c.empty.ensures (λ kept none h body taken.
    let t = subst (λ (s : Sinking _). HasSunk g.K.Keeper.begun s (Some h) body) (sym c.self.view_is) taken in
    let fails : is_successful h.status ≡ false = sym (c.keeps_body.ensures h body t.1) ∙ c.if-keeps_body.false in
    subst (λ (b : BodyValue). g.K.Keeper.holds kept b) (sym (nothing h body fails)) none)
