use Rattle.std.proofs.Common.{◌∙◌, sym}
use Rattle.html_links.proofs.Running.{found_at, found_nowhere}
use Rattle.page_links.proofs.bytes.split_at_byte.Goals as goal

pub returns-in-Some-clause-front : goal.returns-in-Some-clause-front
returns-in-Some-clause-front c =
    let found = found_at c.args.byte c.args.text.now c.in-Some.at c.in-Some.ensures.0.high c.in-Some.ensures.0.before c.in-Some.ensures.1 in
    c.split_at.ensures.front ∙ sym found.0

pub returns-in-Some-clause-left : goal.returns-in-Some-clause-left
returns-in-Some-clause-left c =
    let found = found_at c.args.byte c.args.text.now c.in-Some.at c.in-Some.ensures.0.high c.in-Some.ensures.0.before c.in-Some.ensures.1 in
    c.split_at.ensures.back ∙ sym found.1

pub returns-in-None-clause-front : goal.returns-in-None-clause-front
returns-in-None-clause-front c = sym (found_nowhere c.args.byte c.args.text.now c.in-None.ensures).0

pub returns-in-None-clause-left : goal.returns-in-None-clause-left
returns-in-None-clause-left c = sym (found_nowhere c.args.byte c.args.text.now c.in-None.ensures).1
