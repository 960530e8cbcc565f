-- Each kind of line is taken as it says.
use Rattle.site_maps.proofs.ReadingLaws.{took_skipped, good_skipped}
use Rattle.site_maps.proofs.reading.MapReading.add.Goals as goal

pub returns-in-Skipped : goal.returns-in-Skipped
returns-in-Skipped c = rw c.in-Skipped.is (λ above t. (good_skipped above, took_skipped c.args.self.now above t))

pub returns-in-Page : goal.returns-in-Page
returns-in-Page c = rw c.in-Page.is c.add_page.ensures

pub returns-in-Edge : goal.returns-in-Edge
returns-in-Edge c = rw c.in-Edge.is c.add_edge.ensures

pub returns-in-Moved : goal.returns-in-Moved
returns-in-Moved c = rw c.in-Moved.is c.add_moved.ensures

pub returns-in-Leaf : goal.returns-in-Leaf
returns-in-Leaf c = rw c.in-Leaf.is c.add_leaf.ensures

pub returns-in-Fault : goal.returns-in-Fault
returns-in-Fault c = rw c.in-Fault.is c.add_fault.ensures

pub returns-in-Robots : goal.returns-in-Robots
returns-in-Robots c = rw c.in-Robots.is c.add_robots.ensures

pub returns-in-Closed : goal.returns-in-Closed
returns-in-Closed c = rw c.in-Closed.is c.add_closed.ensures
