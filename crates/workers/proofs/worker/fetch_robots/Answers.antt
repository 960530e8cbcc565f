use Rattle.std.proofs.Common.{◌≡◌, [], ◌∷◌, ◌++◌, length, refl, sym, ap, ◌∙◌, subst, None}
use Rattle.fetcher.specs.declared.fetcher.Ask.TheVariants as ask
use Rattle.workers.proofs.Going.{goes_idle, goes_rules, not_logged, was_logged, noted_after, told_rules}
use Rattle.workers.proofs.worker.fetch_robots.Goals as goal

pub returns-in_default : goal.returns-in_default
returns-in_default g c plan =
    let F = g.F.Fetcher in
    goes_idle F plan c.args.worker c.args.fetcher.now c.args.fetcher.now c.args.notes.now c.make_rules_room.new.notes refl refl c.make_rules_room.ensures.pages c.make_rules_room.ensures.rules

pub returns-then-asks-before : goal.returns-then-asks-before
returns-then-asks-before g c plan =
    let F = g.F.Fetcher in
    let same : length (F.log c.ask_robots.new.self) ≡ length (F.log c.args.fetcher.now) = ap length (sym c.asks.ensures) ∙ (c.if-asks-before.true ∙ ap length c.asks-before.ensures) in
    goes_idle F plan c.args.worker c.args.fetcher.now c.ask_robots.new.self c.args.notes.now c.make_rules_room.new.notes c.in_default-ask_robots.ensures.site
    (not_logged _ _ _ c.in_default-ask_robots.ensures.refused same) c.make_rules_room.ensures.pages c.make_rules_room.ensures.rules

pub returns-in_default-ask_robots : goal.returns-in_default-ask_robots
returns-in_default-ask_robots g c plan =
    let F = g.F.Fetcher in
    let name : c.origin-2.result.now ≡ c.in-Ok.origin = c.origin-2.ensures ∙ sym (c.in-Ok.ensures.name ∙ c.origin.ensures) in
    let logged : F.log c.ask_robots.new.self ≡ F.log c.args.fetcher.now ++ ask.Rules c.origin-2.result.now ∷ [] =
    was_logged (F.log c.args.fetcher.now) (F.log c.ask_robots.new.self) (ask.Rules c.origin-2.result.now) c.in_default-ask_robots.ensures.refused
    (λ same. c.if-asks-before.false (ap length c.asks.ensures ∙ (same ∙ sym (ap length c.asks-before.ensures)))) in
    goes_rules F plan c.args.worker c.args.fetcher.now c.ask_robots.new.self c.args.notes.now _ (record { worker = c.args.worker; origin = c.in-Ok.origin; rules = None }) c.in_default-ask_robots.ensures.site
    (subst (λ u. F.log c.ask_robots.new.self ≡ F.log c.args.fetcher.now ++ ask.Rules u ∷ []) name logged)
    c.make_rules_room.ensures.pages
    (noted_after _ _ _ _ (c.push_reserved.ensures.items ∙ ap (λ n. c.make_rules_room.new.notes.rules.items ++ n ∷ []) c.unanswered_rules.ensures) c.make_rules_room.ensures.rules) tt refl

pub returns : goal.returns
returns g c plan =
    let F = g.F.Fetcher in
    let note = c.hand_rules_over-note.result in
    let name : c.origin-2.result.now ≡ note.origin = c.origin-2.ensures ∙ sym (c.hand_rules_over-note.ensures.origin ∙ (c.in-Ok.ensures.name ∙ c.origin.ensures)) in
    goes_rules F plan c.args.worker c.args.fetcher.now c.ask_robots.new.self c.args.notes.now _ note c.in-Ok-ask_robots.ensures.site
    (subst (λ u. F.log c.ask_robots.new.self ≡ F.log c.args.fetcher.now ++ ask.Rules u ∷ []) name c.in-Ok-ask_robots.ensures.asked)
    c.make_rules_room.ensures.pages (noted_after _ _ _ _ c.push_reserved-2.ensures.items c.make_rules_room.ensures.rules)
    (told_rules (F.rules (F.site c.args.fetcher.now)) note c.in-Ok-ask_robots.rules
    (subst (λ o. F.rules (F.site c.args.fetcher.now) o c.in-Ok-ask_robots.rules) name c.in-Ok-ask_robots.ensures.told) c.hand_rules_over-note.ensures.told)
    c.hand_rules_over-note.ensures.worker
