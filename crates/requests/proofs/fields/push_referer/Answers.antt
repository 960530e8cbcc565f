-- A page is named, or none.
use Rattle.requests.proofs.fields.push_referer.Goals as goal

pub returns-in-Some : goal.returns-in-Some
returns-in-Some c = rw c.in-Some.is c.push_some.ensures
