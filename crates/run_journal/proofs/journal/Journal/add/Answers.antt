use Rattle.std.proofs.Common.{◌≡◌, ◌∙◌, rules, true}
use Rattle.run_journal.proofs.WritingLaws.{closed_more}
use Rattle.run_journal.proofs.journal.Journal.add.Goals as goal

pub returns-in-Err-clause-lives : goal.returns-in-Err-clause-lives
returns-in-Err-clause-lives g c told text start w =
    let D = g.D.Disk in
    let is_open : c.args.self.now.is_open ≡ true = search rules in
    closed_more D.opened D.held D.seen D.kept D.stale D.left D.moment D.since text c.args.line.now start c.begin.new.disk c.begin.new.self c.in-Err.ensures.shut (c.begin.ensures.lives told text start is_open w)

pub returns-in-Ok-clause-lives : goal.returns-in-Ok-clause-lives
returns-in-Ok-clause-lives g c told text start w =
    let is_open : c.args.self.now.is_open ≡ true = search rules in
    let is_begun : c.in-Ok-true.field-0 ≡ true = search rules in
    let begun = c.in-Ok-true.ensures.begun is_begun in
    c.append.ensures.lives text start (begun.0 ∙ is_open) begun.1 (c.begin.ensures.lives told text start is_open w)

pub returns-in-Err-append-clause-lives : goal.returns-in-Err-append-clause-lives
returns-in-Err-append-clause-lives g c told text start w =
    let is_open : c.args.self.now.is_open ≡ true = search rules in
    let is_begun : c.in-Ok-true.field-0 ≡ true = search rules in
    let begun = c.in-Ok-true.ensures.begun is_begun in
    c.append.ensures.lives text start (begun.0 ∙ is_open) begun.1 (c.begin.ensures.lives told text start is_open w)
