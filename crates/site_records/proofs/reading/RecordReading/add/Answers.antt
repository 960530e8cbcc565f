-- Each kind of line is taken as it says.
use Rattle.site_records.proofs.reading.RecordReading.add.Goals as goal

pub returns-in-Page : goal.returns-in-Page
returns-in-Page c = rw c.in-Page.is c.add_page.ensures

pub returns-in-Fault : goal.returns-in-Fault
returns-in-Fault c = rw c.in-Fault.is c.add_fault.ensures

pub returns-in-Robots : goal.returns-in-Robots
returns-in-Robots c = rw c.in-Robots.is c.add_robots.ensures

pub returns-in-Free : goal.returns-in-Free
returns-in-Free c = rw c.in-Free.is c.add_rules.ensures

pub returns-in-Closed : goal.returns-in-Closed
returns-in-Closed c = rw c.in-Closed.is c.add_rules-in-Closed.ensures

pub returns-in-Chain : goal.returns-in-Chain
returns-in-Chain c = rw c.in-Chain.is c.add_chain.ensures
