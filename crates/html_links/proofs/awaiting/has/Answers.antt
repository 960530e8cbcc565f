use Rattle.std.proofs.Common.{sym}
use Rattle.html_links.specs.Asked.{asked_name}
use Rattle.html_links.proofs.Later.{has_value, lacks_value}
use Rattle.html_links.proofs.awaiting.has.Goals as goal

pub returns-in-Some-clause-has : goal.returns-in-Some-clause-has
returns-in-Some-clause-has c = λ _. has_value (asked_name c.args.name) c.in-Some.field-0.now c.args.before.now (sym (rw c.in-Some.is at c.written.ensures))

pub returns-in-None-clause-lacks : goal.returns-in-None-clause-lacks
returns-in-None-clause-lacks c = λ _. lacks_value (asked_name c.args.name) c.args.before.now (sym (rw c.in-None.is at c.written.ensures))
