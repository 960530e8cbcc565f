use Rattle.std.proofs.Common.{◌≡◌, [], ◌∷◌, ◌++◌, length, refl, sym, ap, ◌∙◌, subst, None}
use Rattle.fetcher.specs.declared.fetcher.Ask.TheVariants as ask
use Rattle.workers.proofs.Going.{goes_idle, goes_page, not_logged, was_logged, noted_after, told_page}
use Rattle.workers.proofs.worker.fetch_page.Goals as goal

pub returns-in_default : goal.returns-in_default
returns-in_default g c =
    let F = g.F.Fetcher in
    goes_idle F c.args.plan.now c.args.worker c.args.fetcher.now c.args.fetcher.now c.args.notes.now c.make_page_room.new.notes refl refl c.make_page_room.ensures.pages c.make_page_room.ensures.rules

pub returns-then-asks-before : goal.returns-then-asks-before
returns-then-asks-before g c =
    let F = g.F.Fetcher in
    let same : length (F.log c.ask.new.self) ≡ length (F.log c.args.fetcher.now) = ap length (sym c.asks.ensures) ∙ (c.if-asks-before.true ∙ ap length c.asks-before.ensures) in
    goes_idle F c.args.plan.now c.args.worker c.args.fetcher.now c.ask.new.self c.args.notes.now c.make_page_room.new.notes c.in_default-ask.ensures.site
    (not_logged _ _ _ c.in_default-ask.ensures.refused same) c.make_page_room.ensures.pages c.make_page_room.ensures.rules

pub returns-in_default-ask : goal.returns-in_default-ask
returns-in_default-ask g c =
    let F = g.F.Fetcher in
    let name : c.address-2.result.now ≡ c.in-Ok.address = c.address-2.ensures ∙ sym (c.in-Ok.ensures.name ∙ c.address.ensures) in
    let logged : F.log c.ask.new.self ≡ F.log c.args.fetcher.now ++ ask.Page c.address-2.result.now ∷ [] =
    was_logged (F.log c.args.fetcher.now) (F.log c.ask.new.self) (ask.Page c.address-2.result.now) c.in_default-ask.ensures.refused
    (λ same. c.if-asks-before.false (ap length c.asks.ensures ∙ (same ∙ sym (ap length c.asks-before.ensures)))) in
    goes_page F c.args.plan.now c.args.worker c.args.fetcher.now c.ask.new.self c.args.notes.now _ (record { worker = c.args.worker; address = c.in-Ok.address; outcome = None; body = None }) c.in_default-ask.ensures.site
    (subst (λ u. F.log c.ask.new.self ≡ F.log c.args.fetcher.now ++ ask.Page u ∷ []) name logged)
    (noted_after _ _ _ _ (c.push_reserved.ensures.items ∙ ap (λ n. c.make_page_room.new.notes.pages.items ++ n ∷ []) c.unanswered_page.ensures) c.make_page_room.ensures.pages) c.make_page_room.ensures.rules refl refl

pub returns : goal.returns
returns g c =
    let F = g.F.Fetcher in
    let note = c.hand_over-note.result.0 in
    let name : c.address-2.result.now ≡ note.address = c.address-2.ensures ∙ sym (c.hand_over-note.ensures.address ∙ (c.in-Ok.ensures.name ∙ c.address.ensures)) in
    goes_page F c.args.plan.now c.args.worker c.args.fetcher.now c.ask.new.self c.args.notes.now _ note c.in-Ok-ask.ensures.site
    (subst (λ u. F.log c.ask.new.self ≡ F.log c.args.fetcher.now ++ ask.Page u ∷ []) name c.in-Ok-ask.ensures.asked)
    (noted_after _ _ _ _ c.push_reserved-2.ensures.items c.make_page_room.ensures.pages) c.make_page_room.ensures.rules
    (told_page (F.says (F.site c.args.fetcher.now)) c.args.plan.now note c.in-Ok-ask.answer.outcome c.in-Ok-ask.answer.body
    (subst (λ u. F.says (F.site c.args.fetcher.now) u c.in-Ok-ask.answer.outcome c.in-Ok-ask.answer.body) name c.in-Ok-ask.ensures.told) c.hand_over-note.ensures.told)
    c.hand_over-note.ensures.worker
