-- An offer is one by number if the address has one, and else a new address goes last.
use Rattle.std.proofs.Common.{◌≡◌, refl, sym, ap, ◌∙◌}
use Rattle.depth_labels.specs.Depths.{Table, depth_at, after_offer}
use Rattle.depth_labels.specs.declared.labels.LabelFault.TheVariants.{Full}
use Rattle.depth_labels.proofs.labels.Labels.offer.Goals as goal
use Rattle.depth_labels.proofs.LabelLemmas.{numbered, unnumbered, answered, table_is, err_as, added, lowered, least_at, beside}

pub returns-in-Some-clause-ok : goal.returns-in-Some-clause-ok
returns-in-Some-clause-ok c =
    let n = numbered c.args.self.now.depths c.args.address.now c.in-Some.number c.in-Some.ensures in
    answered c.args.self.now.depths c.args.address.now c.args.depth c.in-Some.number c.offer_at.result n c.offer_at.ensures.offer

pub returns-in-Some-clause-table : goal.returns-in-Some-clause-table
returns-in-Some-clause-table c =
    let n = numbered c.args.self.now.depths c.args.address.now c.in-Some.number c.in-Some.ensures in
    let written = lowered c.args.self.now.depths c.offer_at.new.self.depths c.args.address.now c.args.depth c.in-Some.number n.place n.value n.found c.offer_at.ensures.depths in
    table_is c.offer_at.new.self c.args.self.now.most (after_offer c.args.self.now.depths c.args.address.now c.args.depth (depth_at c.args.self.now.depths c.args.address.now)) c.offer_at.ensures.most written

pub returns-in-Some-clause-least : goal.returns-in-Some-clause-least
returns-in-Some-clause-least c =
    let n = numbered c.args.self.now.depths c.args.address.now c.in-Some.number c.in-Some.ensures in
    let written = lowered c.args.self.now.depths c.offer_at.new.self.depths c.args.address.now c.args.depth c.in-Some.number n.place n.value n.found c.offer_at.ensures.depths in
    rw written (least_at c.args.self.now.depths c.args.address.now c.args.depth)

pub returns-in-Some-clause-others : goal.returns-in-Some-clause-others
returns-in-Some-clause-others c other e =
    let n = numbered c.args.self.now.depths c.args.address.now c.in-Some.number c.in-Some.ensures in
    let written = lowered c.args.self.now.depths c.offer_at.new.self.depths c.args.address.now c.args.depth c.in-Some.number n.place n.value n.found c.offer_at.ensures.depths in
    rw written (beside c.args.self.now.depths c.args.address.now other c.args.depth (depth_at c.args.self.now.depths c.args.address.now) e)

pub returns-in-Some-clause-full : goal.returns-in-Some-clause-full
returns-in-Some-clause-full c =
    let n = numbered c.args.self.now.depths c.args.address.now c.in-Some.number c.in-Some.ensures in
    (λ e. absurd cc, λ h. (let none = rw h.0 at n.found in absurd cc))

pub returns-in-Err-clause-full : goal.returns-in-Err-clause-full
returns-in-Err-clause-full c =
    let none = unnumbered c.args.self.now.depths c.args.address.now c.in_default.ensures in
    let most : c.self.inside.max ≡ c.args.self.now.most = ap (λ (t : Table). t.most) c.self.view_is in
    let full = c.in-Err.ensures.full in
    (λ e. (none, full.0 (err_as c.in-Err.fault Full e) ∙ most), λ h. err_as c.in-Err.fault Full (full.1 (h.1 ∙ sym most)))

pub returns-in-Err-clause-held : goal.returns-in-Err-clause-held
returns-in-Err-clause-held c h = rw (unnumbered c.args.self.now.depths c.args.address.now c.in_default.ensures) at h

pub add-requires-clause-new : goal.add-requires-clause-new
add-requires-clause-new c = rw (c.reserve.ensures.depths, c.in-Ok.ensures) (unnumbered c.args.self.now.depths c.args.address.now c.in_default.ensures)

pub returns-in-Ok-clause-ok : goal.returns-in-Ok-clause-ok
returns-in-Ok-clause-ok c = rw (unnumbered c.args.self.now.depths c.args.address.now c.in_default.ensures) refl

pub returns-in-Ok-clause-table : goal.returns-in-Ok-clause-table
returns-in-Ok-clause-table c =
    let none = unnumbered c.args.self.now.depths c.args.address.now c.in_default.ensures in
    let most : c.self.inside.max ≡ c.args.self.now.most = ap (λ (t : Table). t.most) c.self.view_is in
    let is = added c.args.self.now.depths c.reserve.new.self.depths c.add.new.self.depths c.args.address.now c.in-Ok.key c.args.depth none c.reserve.ensures.depths c.in-Ok.ensures c.add.ensures.depths in
    table_is c.add.new.self c.args.self.now.most (after_offer c.args.self.now.depths c.args.address.now c.args.depth (depth_at c.args.self.now.depths c.args.address.now)) (c.add.ensures.most ∙ c.reserve.ensures.most ∙ most) is

pub returns-in-Ok-clause-least : goal.returns-in-Ok-clause-least
returns-in-Ok-clause-least c =
    let none = unnumbered c.args.self.now.depths c.args.address.now c.in_default.ensures in
    let is = added c.args.self.now.depths c.reserve.new.self.depths c.add.new.self.depths c.args.address.now c.in-Ok.key c.args.depth none c.reserve.ensures.depths c.in-Ok.ensures c.add.ensures.depths in
    rw is (least_at c.args.self.now.depths c.args.address.now c.args.depth)

pub returns-in-Ok-clause-others : goal.returns-in-Ok-clause-others
returns-in-Ok-clause-others c other e =
    let none = unnumbered c.args.self.now.depths c.args.address.now c.in_default.ensures in
    let is = added c.args.self.now.depths c.reserve.new.self.depths c.add.new.self.depths c.args.address.now c.in-Ok.key c.args.depth none c.reserve.ensures.depths c.in-Ok.ensures c.add.ensures.depths in
    rw is (beside c.args.self.now.depths c.args.address.now other c.args.depth (depth_at c.args.self.now.depths c.args.address.now) e)

pub returns-in-Err-try_clone-clause-held : goal.returns-in-Err-try_clone-clause-held
returns-in-Err-try_clone-clause-held c h = rw (unnumbered c.args.self.now.depths c.args.address.now c.in_default.ensures) at h
