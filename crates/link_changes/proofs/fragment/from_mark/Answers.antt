use Rattle.link_changes.proofs.Marks.{mark_at, mark_nowhere}
use Rattle.link_changes.proofs.fragment.from_mark.Goals as goal

pub returns-in-Some : goal.returns-in-Some
returns-in-Some c = mark_at c.args.text.now c.in-Some.at c.in-Some.ensures.0.high c.in-Some.ensures.0.before c.in-Some.ensures.1

pub returns-in-None : goal.returns-in-None
returns-in-None c = mark_nowhere c.args.text.now c.in-None.ensures
