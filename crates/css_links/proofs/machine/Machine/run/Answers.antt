use Rattle.css_links.specs.Scanning.{seen_of}
use Rattle.css_links.proofs.Passing.{comment_passed, import_comment_passed}
use Rattle.css_links.proofs.machine.Machine.run.Goals as goal

pub returns-in-Comment-clause-gives : goal.returns-in-Comment-clause-gives
returns-in-Comment-clause-gives c = rw (c.in-Comment.is, c.from_star.ensures.left) (comment_passed c.args.self.now.raw.items (seen_of c.args.self.now) c.args.text.now)

pub returns-in-ImportComment-clause-gives : goal.returns-in-ImportComment-clause-gives
returns-in-ImportComment-clause-gives c =
    rw (c.in-ImportComment.is, c.from_star-in-ImportComment.ensures.left) (import_comment_passed c.args.self.now.raw.items (seen_of c.args.self.now) c.args.text.now)
