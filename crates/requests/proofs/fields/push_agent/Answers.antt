-- The name is given, or it is the usual one.
use Rattle.requests.proofs.fields.push_agent.Goals as goal

pub returns-in-Some : goal.returns-in-Some
returns-in-Some c = rw c.in-Some.is c.push_some.ensures

pub returns-in-None : goal.returns-in-None
returns-in-None c = rw c.in-None.is c.push.ensures
