-- By its address, and then by its name.
use Rattle.std.proofs.Common.{◌≡◌, ◌∙◌, ap, sym, map}
use Rattle.mirror_upkeep.specs.Joined.{addresses, names}
use Rattle.mirror_upkeep.specs.Names.{has_name}
use Rattle.mirror_upkeep.specs.inner.Lent.{lent_text}
use Rattle.mirror_upkeep.proofs.NameLaws.{has_address, has_moved, or_left, or_none}
use Rattle.mirror_upkeep.proofs.joining.is_replaced.Goals as goal

pub returns-then-is_some : goal.returns-then-is_some
returns-then-is_some c =
    let pages = c.args.pages.now in
    let e = c.args.entry.now in
    let has : c.is_some.result ≡ has_name (addresses pages) e.address = c.is_some.ensures ∙ has_address pages c.address.result.now c.entry.result c.entry.ensures ∙ ap (has_name (addresses pages)) c.address.ensures in
    c.if-is_some.true ∙ sym (or_left (has_name (addresses pages) e.address) (has_name (names pages) e.name) (sym has ∙ c.if-is_some.true))

pub returns-else-is_some : goal.returns-else-is_some
returns-else-is_some c =
    let pages = c.args.pages.now in
    let e = c.args.entry.now in
    let has : c.is_some.result ≡ has_name (addresses pages) e.address = c.is_some.ensures ∙ has_address pages c.address.result.now c.entry.result c.entry.ensures ∙ ap (has_name (addresses pages)) c.address.ensures in
    c.is_among.ensures
    ∙ ap (has_name (map lent_text c.args.in_order.now)) (c.as_bytes.ensures.value ∙ c.name.ensures)
    ∙ sym (has_moved (names pages) (map lent_text c.args.in_order.now) e.name c.requires.same)
    ∙ sym (or_none (has_name (addresses pages) e.address) (has_name (names pages) e.name) (sym has ∙ c.if-is_some.false))
