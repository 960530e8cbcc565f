use Rattle.std.proofs.Common.{◌++◌, List, ℕ, Option, Some, string_bytes, inr, rules, refl, sym, subst}
use Rattle.disk_folder.specs.Disks.{LeavesOnly}
use Rattle.disk_folder.proofs.Moments.{one_call}
use Rattle.entry_lines.specs.Lines.{text}
use Rattle.entry_lines.proofs.LineLaws.{entries-append}
use Rattle.run_store.specs.Indexes.{LeavesFront}
use Rattle.run_store.proofs.Fronts.{leaves_front, torn_none}
use Rattle.std.proofs.lemmas.List.{append-nil}
use Rattle.run_store.proofs.index.Index.sync.Goals as goal

pub returns-in-Ok-clause-synced : goal.returns-in-Ok-clause-synced
returns-in-Ok-clause-synced g c done added s =
    let D = g.D.Disk in
    let name = string_bytes c.args.self.now.name in
    let all = text (done ++ added) in
    record {
      is_open = s.is_open;
      is_opened = c.in-Ok.ensures.stays_open name s.is_opened;
      stands = subst (λ (es : List (List ℕ)). D.seen c.sync.new.self name (Some (text es))) (sym (append-nil (done ++ added))) (c.in-Ok.ensures.seen name (Some all) s.stands);
      is_named = c.sync.ensures.named name s.is_named;
      torn = torn_none (done ++ added) all (D.kept c.sync.new.self name) refl (λ x k. c.in-Ok.ensures.durable name all x s.is_opened s.stands k);
      are_done = entries-append done added s.are_done s.are_added;
      are_added = tt;
    }

pub returns-in-Ok-clause-any_moment : goal.returns-in-Ok-clause-any_moment
returns-in-Ok-clause-any_moment g c done added s =
    let D = g.D.Disk in
    let disk = c.args.self.now.disk in
    let name = string_bytes c.args.self.now.name in
    let before : (o : Option (List ℕ)) → D.left disk name o → LeavesFront done added o = λ o left.
    leaves_front done added (D.kept disk name) s.are_done s.are_added s.torn o (g.met.D.Disk.leaves_named disk name o s.is_named left) in
    one_call D.moment D.since D.left g.met.D.Disk.only_now name disk c.sync.new.self (LeavesFront done added) c.sync.ensures.time before (λ o left. before o (c.sync.ensures.crash name o left))

pub returns-in-Err-clause-any_moment : goal.returns-in-Err-clause-any_moment
returns-in-Err-clause-any_moment g c done added s =
    let D = g.D.Disk in
    let disk = c.args.self.now.disk in
    let name = string_bytes c.args.self.now.name in
    let before : (o : Option (List ℕ)) → D.left disk name o → LeavesFront done added o = λ o left.
    leaves_front done added (D.kept disk name) s.are_done s.are_added s.torn o (g.met.D.Disk.leaves_named disk name o s.is_named left) in
    one_call D.moment D.since D.left g.met.D.Disk.only_now name disk c.sync.new.self (LeavesFront done added) c.sync.ensures.time before (λ o left. before o (c.sync.ensures.crash name o left))

pub returns-in-Ok-clause-step : goal.returns-in-Ok-clause-step
returns-in-Ok-clause-step g c = record {
  was_open = search rules;
  same_name = refl;
  now = λ d a s. returns-in-Ok-clause-synced g c d a s;
  passes = λ d a s. subst (λ (l : List (List ℕ)). LeavesOnly g.D.Disk.moment g.D.Disk.since (string_bytes c.args.self.now.name) c.args.self.now.disk c.sync.new.self (LeavesFront d l)) (sym (append-nil a)) (returns-in-Ok-clause-any_moment g c d a s);
}

pub returns-in-Err-clause-step : goal.returns-in-Err-clause-step
returns-in-Err-clause-step g c = inr (record {
  was_open = search rules;
  is_shut = refl;
  same_name = refl;
  passes = λ d a s. subst (λ (l : List (List ℕ)). LeavesOnly g.D.Disk.moment g.D.Disk.since (string_bytes c.args.self.now.name) c.args.self.now.disk c.sync.new.self (LeavesFront d l)) (sym (append-nil a)) (returns-in-Err-clause-any_moment g c d a s);
})
