-- What was gathered belongs together.
use Rattle.frontier_core.specs.Machine.{answers}
use Rattle.harvest.proofs.GatherLaws.{are_pages}
use Rattle.harvest.proofs.harvest.Harvest.gather.Goals as goal

pub invariant_of-result : goal.invariant_of-result
invariant_of-result g c =
    let held = c.in-Ok.ensures in
    let (sorted, moved, up, names, parts) = held.pages in
    let pages = are_pages c.args.frontier.plan (answers c.args.frontier.state) c.args.pages.items sorted c.in-Ok.all.1.addresses.items c.in-Ok.all.1.bodies.items
    c.requires.kept moved up names parts in rw c.in_ok-frontier.ensures.ok (
      record { ascending = held.entries_ascend; same = rw (c.deref.ensures, c.in_ok-frontier.ensures.ok) at held.entries; places = held.places },
      record { ascending = held.records_ascend; same = rw (c.deref.ensures, c.in_ok-frontier.ensures.ok) at held.records },
      record { ascending = held.rules_ascend; same = rw (c.deref.ensures, c.in_ok-frontier.ensures.ok) at held.rules },
      record { ascending = pages.0; paired = pages.1; kept = pages.2 },
    )
