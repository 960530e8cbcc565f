use Rattle.std.proofs.Common.{◌≢◌, inl, inr, ⊎_elim, rules}
use Rattle.disk_folder.proofs.Moments.{goes_on}
use Rattle.run_journal.specs.Written.{LeavesText}
use Rattle.run_journal.proofs.WritingLaws.{weaker}
use Rattle.run_journal.proofs.journal.put.Goals as goal

pub returns-in_err-make_part-clause-any_moment : goal.returns-in_err-make_part-clause-any_moment
returns-in_err-make_part-clause-any_moment g c told =
    let D = g.D.Disk in
    let name = c.args.name.now in
    let other : name ≢ c.args.part.now = search rules in
    weaker D.moment D.since name c.args.disk.now c.make_part.new.disk (D.left c.args.disk.now name) (LeavesText (D.left c.args.disk.now name) c.args.bytes.now) (c.make_part.ensures.any_moment told name other) (λ o was. inl was)

pub returns-clause-any_moment : goal.returns-clause-any_moment
returns-clause-any_moment g c told =
    let D = g.D.Disk in
    let old = c.args.disk.now in
    let name = c.args.name.now in
    let other : name ≢ c.args.part.now = search rules in
    let leaves = LeavesText (D.left old name) c.args.bytes.now in
    let made = c.in_ok-make_part.ensures.made told in
    let so_far = weaker D.moment D.since name old c.make_part.new.disk (D.left old name) leaves (c.make_part.ensures.any_moment told name other) (λ o was. inl was) in
    goes_on D.moment D.since D.left g.met.D.Disk.only_now name old c.make_part.new.disk c.rename.new.self leaves so_far c.rename.ensures.time
    (λ o left. ⊎_elim (λ was. inl (c.make_part.ensures.others told name o other was)) (λ is. inr (is.0, is.1, made.torn is.0 is.2)) (c.rename.ensures.crash o left))
