-- Cookies of a file go where it says, whether the request is written or not.
use Rattle.requests.proofs.JarLemmas.{go_where_named}
use Rattle.requests.proofs.request.write_request.Goals as goal

pub returns-in-Ok-clause-cookies : goal.returns-in-Ok-clause-cookies
returns-in-Ok-clause-cookies g c = go_where_named c.args.sending.now c.args.at.now

pub returns-in-Err-clause-cookies : goal.returns-in-Err-clause-cookies
returns-in-Err-clause-cookies g c = go_where_named c.args.sending.now c.args.at.now
