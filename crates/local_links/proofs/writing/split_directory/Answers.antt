use Rattle.std.proofs.Common.{add-one, ◌+◌}
use Rattle.local_links.proofs.Going.{whole, cut_range}
use Rattle.local_links.proofs.writing.split_directory.Goals as goal

pub returns-in-Some-clause-parts : goal.returns-in-Some-clause-parts
returns-in-Some-clause-parts c = cut_range c.args.name.now c.in-Some.at (c.in-Some.at + 1) (add-one c.in-Some.at) c.in-Some.ensures.0.high c.in-Some.ensures.0.before c.in-Some.ensures.1

pub returns-in-None-clause-parts : goal.returns-in-None-clause-parts
returns-in-None-clause-parts c = whole c.args.name.now c.in-None.ensures
