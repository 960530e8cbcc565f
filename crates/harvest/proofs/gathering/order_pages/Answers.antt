-- The pages as they were sorted.
use Rattle.harvest.proofs.gathering.order_pages.Goals as goal

pub returns : goal.returns
returns g c = (c.sort_by_name.new.things.items, c.in_ok-sort_by_name.ensures.permutation, c.in_ok-sort_by_name.ensures.ascending, c.in_ok-parted.ensures.addresses, c.in_ok-parted.ensures.bodies)
