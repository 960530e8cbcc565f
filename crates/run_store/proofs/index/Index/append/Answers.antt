use Rattle.std.proofs.Common.{◌≡◌, ◌++◌, [], ◌∷◌, List, ℕ, Option, Some, string_bytes, inr, refl, rules, ◌∙◌, subst}
use Rattle.disk_folder.proofs.Moments.{at_rest, one_call}
use Rattle.entry_lines.specs.Lines.{text}
use Rattle.entry_lines.proofs.LineLaws.{text-append}
use Rattle.run_store.specs.Indexes.{LeavesFront}
use Rattle.run_store.proofs.Fronts.{leaves_front, leaves_more, torn_push, stands_push, plain_entry}
use Rattle.run_store.proofs.index.Index.append.Goals as goal

pub returns-in_err-line-clause-any_moment : goal.returns-in_err-line-clause-any_moment
returns-in_err-line-clause-any_moment g c done added s =
    let D = g.D.Disk in
    let disk = c.args.self.now.disk in
    let name = string_bytes c.args.self.now.name in
    let more = added ++ c.args.entry.now ∷ [] in
    let before : (o : Option (List ℕ)) → D.left disk name o → LeavesFront done more o = λ o left.
    leaves_more done added (c.args.entry.now ∷ []) o (leaves_front done added (D.kept disk name) s.are_done s.are_added s.torn o (g.met.D.Disk.leaves_named disk name o s.is_named left)) in
    at_rest D.moment D.since D.left g.met.D.Disk.only_now name disk (LeavesFront done more) before

pub returns-in-Ok-clause-appended : goal.returns-in-Ok-clause-appended
returns-in-Ok-clause-appended g c done added s =
    let D = g.D.Disk in
    let name = string_bytes c.args.self.now.name in
    let entry = c.args.entry.now in
    let is_line : c.as_slice.result.now ≡ entry ++ 10 ∷ [] = c.as_slice.ensures.value ∙ c.in_ok-line.ensures in
    record {
      is_open = s.is_open;
      is_opened = c.in-Ok.ensures.stays_open name s.is_opened;
      stands = subst (λ (l : List ℕ). D.seen c.add.new.self name (Some l)) (stands_push done added entry c.as_slice.result.now is_line) (c.in-Ok.ensures.added name (text (done ++ added)) s.is_opened s.stands);
      is_named = c.add.ensures.named name s.is_named;
      torn = torn_push done added entry c.as_slice.result.now (D.kept c.args.self.now.disk name) (D.kept c.add.new.self name) is_line (c.add.ensures.torn name (text done) (text added) s.is_opened (subst (λ (l : List ℕ). g.D.Disk.seen c.args.self.now.disk name (Some l)) (text-append done added) s.stands)) s.torn;
      are_done = s.are_done;
      are_added = plain_entry added entry s.are_added c.requires;
    }

pub returns-in-Ok-clause-any_moment : goal.returns-in-Ok-clause-any_moment
returns-in-Ok-clause-any_moment g c done added s =
    let D = g.D.Disk in
    let disk = c.args.self.now.disk in
    let name = string_bytes c.args.self.now.name in
    let more = added ++ c.args.entry.now ∷ [] in
    let before : (o : Option (List ℕ)) → D.left disk name o → LeavesFront done more o = λ o left.
    leaves_more done added (c.args.entry.now ∷ []) o (leaves_front done added (D.kept disk name) s.are_done s.are_added s.torn o (g.met.D.Disk.leaves_named disk name o s.is_named left)) in
    let new = c.add.new.self in
    let is_line : c.as_slice.result.now ≡ c.args.entry.now ++ 10 ∷ [] = c.as_slice.ensures.value ∙ c.in_ok-line.ensures in
    let behind : (o : Option (List ℕ)) → D.left new name o → LeavesFront done more o = λ o left.
    leaves_front done more (D.kept new name) s.are_done (plain_entry added c.args.entry.now s.are_added c.requires)
    (torn_push done added c.args.entry.now c.as_slice.result.now (D.kept disk name) (D.kept new name) is_line (c.add.ensures.torn name (text done) (text added) s.is_opened (subst (λ (l : List ℕ). g.D.Disk.seen c.args.self.now.disk name (Some l)) (text-append done added) s.stands)) s.torn)
    o (g.met.D.Disk.leaves_named new name o (c.add.ensures.named name s.is_named) left) in
    one_call D.moment D.since D.left g.met.D.Disk.only_now name disk new (LeavesFront done more) c.add.ensures.time before behind

pub returns-clause-any_moment : goal.returns-clause-any_moment
returns-clause-any_moment g c done added s =
    let D = g.D.Disk in
    let disk = c.args.self.now.disk in
    let name = string_bytes c.args.self.now.name in
    let more = added ++ c.args.entry.now ∷ [] in
    let before : (o : Option (List ℕ)) → D.left disk name o → LeavesFront done more o = λ o left.
    leaves_more done added (c.args.entry.now ∷ []) o (leaves_front done added (D.kept disk name) s.are_done s.are_added s.torn o (g.met.D.Disk.leaves_named disk name o s.is_named left)) in
    let new = c.add.new.self in
    let is_line : c.as_slice.result.now ≡ c.args.entry.now ++ 10 ∷ [] = c.as_slice.ensures.value ∙ c.in_ok-line.ensures in
    let behind : (o : Option (List ℕ)) → D.left new name o → LeavesFront done more o = λ o left.
    leaves_front done more (D.kept new name) s.are_done (plain_entry added c.args.entry.now s.are_added c.requires)
    (torn_push done added c.args.entry.now c.as_slice.result.now (D.kept disk name) (D.kept new name) is_line (c.add.ensures.torn name (text done) (text added) s.is_opened (subst (λ (l : List ℕ). g.D.Disk.seen c.args.self.now.disk name (Some l)) (text-append done added) s.stands)) s.torn)
    o (g.met.D.Disk.leaves_named new name o (c.add.ensures.named name s.is_named) left) in
    one_call D.moment D.since D.left g.met.D.Disk.only_now name disk new (LeavesFront done more) c.add.ensures.time before behind

pub returns-in-Ok-clause-step : goal.returns-in-Ok-clause-step
returns-in-Ok-clause-step g c = record {
  was_open = search rules;
  same_name = refl;
  now = λ d a s. returns-in-Ok-clause-appended g c d a s;
  passes = λ d a s. returns-in-Ok-clause-any_moment g c d a s;
}

pub returns-clause-step : goal.returns-clause-step
returns-clause-step g c = inr (record {
  was_open = search rules;
  is_shut = refl;
  same_name = refl;
  passes = λ d a s. returns-clause-any_moment g c d a s;
})
