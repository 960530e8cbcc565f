-- Each field is what the option says, or what was read of it.
use Rattle.std.proofs.Common.{refl}
use Rattle.options.proofs.matched_order.filled.Goals as goal

pub returns : goal.returns
returns c =
    rw (c.none.ensures, c.limit_within.ensures.value, c.is_set.ensures, c.is_set-2.ensures, c.is_set-3.ensures, c.honours_robots.ensures, c.is_set-4.ensures, c.is_set-5.ensures)
    (rw (c.is_set-6.ensures, c.links.ensures, c.source.ensures, c.is_set-7.ensures, c.is_set-8.ensures, c.is_set-9.ensures, c.is_set-10.ensures, c.is_set-11.ensures, c.is_set-12.ensures, c.is_set-13.ensures)
    (rw (c.requires.prefix, c.requires.resume, c.requires.save)
    (rw (c.requires.log, c.requires.rejected, c.new.ensures.items, c.upkeep.ensures) refl)))
