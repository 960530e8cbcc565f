use Rattle.std.proofs.Common.{rules, ◌≡◌, [], Some, true}
use Rattle.disk_folder.specs.Disks.{AreTorn}
use Rattle.run_journal.proofs.WritingLaws.{holed_of, on_both}
use Rattle.run_journal.proofs.journal.make_part.Goals as goal

pub returns-clause-made : goal.returns-clause-made
returns-clause-made g c told =
    let D = g.D.Disk in
    let part = c.args.part.now in
    let made = c.in_ok-make.ensures.made told in
    let is_opened = c.hold.ensures.stays_open part made.0 in
    let seen = c.hold.ensures.seen part (Some []) made.1 in
    let yes : c.in_ok-hold.field-0 ≡ true = search rules in
    let is_held = c.in_ok-hold.ensures.held yes part made.0 in
    let none : AreTorn [] [] (D.kept c.hold.new.self part) = λ x k. record { rest = []; split = c.in_ok-make.ensures.kept_made x (c.hold.ensures.kept part x k); holed = tt } in
    let torn = c.add.ensures.torn part [] [] is_opened seen none in
    on_both c.add.result c.add.ensures.added c.add.ensures.stays_open (λ added stays. record {
      is_opened = stays part is_opened;
      is_held = c.add.ensures.stays_held part is_held;
      stands = added part [] is_opened seen;
      torn = holed_of c.args.bytes.now (D.kept c.add.new.self part) torn;
    })
