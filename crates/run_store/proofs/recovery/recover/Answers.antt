use Rattle.std.proofs.Common.{◌≡◌, ◌⊎◌, inl, inr, ⊎_elim, List, ℕ, [], Option, Some, None, ◌∙◌, ap, arith}
use Rattle.std.proofs.lemmas.Grind.{common_steps}
use Rattle.disk_folder.proofs.Moments.{one_call, and_then}
use Rattle.entry_lines.specs.Lines.{text, recovered}
use Rattle.entry_lines.proofs.LineLaws.{read_again, are_recovered}
use Rattle.run_store.specs.Recoveries.{LeavesSame}
use Rattle.run_store.proofs.recovery.recover.Goals as goal

pub returns-in_err-write_whole-clause-any_moment : goal.returns-in_err-write_whole-clause-any_moment
returns-in_err-write_whole-clause-any_moment g c bytes seen =
    let D = g.D.Disk in
    let disk = c.args.disk.now in
    let name = c.args.name.now in
    let told : D.tells = g.met.D.Disk.told disk name (Some bytes) seen in
    let first = one_call D.moment D.since D.left g.met.D.Disk.only_now name disk c.read.new.self (D.left disk name) c.read.ensures.time (λ o left. left) (λ o left. c.read.ensures.crash name o left) in
    let second = c.write_whole.ensures.any_moment told name c.requires in
    let so_far = and_then D.moment D.since name disk c.read.new.self c.write_whole.new.disk (D.left disk name) (D.left c.read.new.self name) (LeavesSame (D.left disk name) bytes) first second (λ o left. inl left) (λ o left. inl (c.read.ensures.crash name o left)) in
    so_far

pub returns-in_err-put_in_place-clause-any_moment : goal.returns-in_err-put_in_place-clause-any_moment
returns-in_err-put_in_place-clause-any_moment g c bytes seen =
    let D = g.D.Disk in
    let disk = c.args.disk.now in
    let name = c.args.name.now in
    let told : D.tells = g.met.D.Disk.told disk name (Some bytes) seen in
    let first = one_call D.moment D.since D.left g.met.D.Disk.only_now name disk c.read.new.self (D.left disk name) c.read.ensures.time (λ o left. left) (λ o left. c.read.ensures.crash name o left) in
    let second = c.write_whole.ensures.any_moment told name c.requires in
    let so_far = and_then D.moment D.since name disk c.read.new.self c.write_whole.new.disk (D.left disk name) (D.left c.read.new.self name) (LeavesSame (D.left disk name) bytes) first second (λ o left. inl left) (λ o left. inl (c.read.ensures.crash name o left)) in
    let is : c.as_slice-2.result.now ≡ text (recovered bytes) = grind (arith, common_steps) in
    let same : recovered c.as_slice-2.result.now ≡ recovered bytes = ap recovered is ∙ read_again (recovered bytes) (are_recovered bytes) in
    let third = c.put_in_place.ensures.any_moment c.as_slice-2.result.now (c.in_ok-write_whole.ensures.written told) in
    and_then D.moment D.since name disk c.write_whole.new.disk c.put_in_place.new.disk (LeavesSame (D.left disk name) bytes)
    (λ (o : Option (List ℕ)). D.left c.write_whole.new.disk name o ⊎ (o ≡ Some c.as_slice-2.result.now)) (LeavesSame (D.left disk name) bytes) so_far third (λ o left. left)
    (λ o left. ⊎_elim (λ was. inl (c.read.ensures.crash name o (c.write_whole.ensures.others told name o c.requires was))) (λ now. inr (c.as_slice-2.result.now, now, same)) left)

pub returns-clause-any_moment : goal.returns-clause-any_moment
returns-clause-any_moment g c bytes seen =
    let D = g.D.Disk in
    let disk = c.args.disk.now in
    let name = c.args.name.now in
    let told : D.tells = g.met.D.Disk.told disk name (Some bytes) seen in
    let first = one_call D.moment D.since D.left g.met.D.Disk.only_now name disk c.read.new.self (D.left disk name) c.read.ensures.time (λ o left. left) (λ o left. c.read.ensures.crash name o left) in
    let second = c.write_whole.ensures.any_moment told name c.requires in
    let so_far = and_then D.moment D.since name disk c.read.new.self c.write_whole.new.disk (D.left disk name) (D.left c.read.new.self name) (LeavesSame (D.left disk name) bytes) first second (λ o left. inl left) (λ o left. inl (c.read.ensures.crash name o left)) in
    let is : c.as_slice-2.result.now ≡ text (recovered bytes) = grind (arith, common_steps) in
    let same : recovered c.as_slice-2.result.now ≡ recovered bytes = ap recovered is ∙ read_again (recovered bytes) (are_recovered bytes) in
    let third = c.put_in_place.ensures.any_moment c.as_slice-2.result.now (c.in_ok-write_whole.ensures.written told) in
    and_then D.moment D.since name disk c.write_whole.new.disk c.put_in_place.new.disk (LeavesSame (D.left disk name) bytes)
    (λ (o : Option (List ℕ)). D.left c.write_whole.new.disk name o ⊎ (o ≡ Some c.as_slice-2.result.now)) (LeavesSame (D.left disk name) bytes) so_far third (λ o left. left)
    (λ o left. ⊎_elim (λ was. inl (c.read.ensures.crash name o (c.write_whole.ensures.others told name o c.requires was))) (λ now. inr (c.as_slice-2.result.now, now, same)) left)

pub returns-in_err-write_whole-clause-any_moment_of_none : goal.returns-in_err-write_whole-clause-any_moment_of_none
returns-in_err-write_whole-clause-any_moment_of_none g c seen =
    let D = g.D.Disk in
    let disk = c.args.disk.now in
    let name = c.args.name.now in
    let told : D.tells = g.met.D.Disk.told disk name None seen in
    let first = one_call D.moment D.since D.left g.met.D.Disk.only_now name disk c.read.new.self (D.left disk name) c.read.ensures.time (λ o left. left) (λ o left. c.read.ensures.crash name o left) in
    let second = c.write_whole.ensures.any_moment told name c.requires in
    let so_far = and_then D.moment D.since name disk c.read.new.self c.write_whole.new.disk (D.left disk name) (D.left c.read.new.self name) (LeavesSame (D.left disk name) []) first second (λ o left. inl left) (λ o left. inl (c.read.ensures.crash name o left)) in
    so_far

pub returns-in_err-put_in_place-clause-any_moment_of_none : goal.returns-in_err-put_in_place-clause-any_moment_of_none
returns-in_err-put_in_place-clause-any_moment_of_none g c seen =
    let D = g.D.Disk in
    let disk = c.args.disk.now in
    let name = c.args.name.now in
    let told : D.tells = g.met.D.Disk.told disk name None seen in
    let first = one_call D.moment D.since D.left g.met.D.Disk.only_now name disk c.read.new.self (D.left disk name) c.read.ensures.time (λ o left. left) (λ o left. c.read.ensures.crash name o left) in
    let second = c.write_whole.ensures.any_moment told name c.requires in
    let so_far = and_then D.moment D.since name disk c.read.new.self c.write_whole.new.disk (D.left disk name) (D.left c.read.new.self name) (LeavesSame (D.left disk name) []) first second (λ o left. inl left) (λ o left. inl (c.read.ensures.crash name o left)) in
    let is : c.as_slice-2.result.now ≡ text (recovered []) = grind (arith, common_steps) in
    let same : recovered c.as_slice-2.result.now ≡ recovered [] = ap recovered is ∙ read_again (recovered []) (are_recovered []) in
    let third = c.put_in_place.ensures.any_moment c.as_slice-2.result.now (c.in_ok-write_whole.ensures.written told) in
    and_then D.moment D.since name disk c.write_whole.new.disk c.put_in_place.new.disk (LeavesSame (D.left disk name) [])
    (λ (o : Option (List ℕ)). D.left c.write_whole.new.disk name o ⊎ (o ≡ Some c.as_slice-2.result.now)) (LeavesSame (D.left disk name) []) so_far third (λ o left. left)
    (λ o left. ⊎_elim (λ was. inl (c.read.ensures.crash name o (c.write_whole.ensures.others told name o c.requires was))) (λ now. inr (c.as_slice-2.result.now, now, same)) left)

pub returns-clause-any_moment_of_none : goal.returns-clause-any_moment_of_none
returns-clause-any_moment_of_none g c seen =
    let D = g.D.Disk in
    let disk = c.args.disk.now in
    let name = c.args.name.now in
    let told : D.tells = g.met.D.Disk.told disk name None seen in
    let first = one_call D.moment D.since D.left g.met.D.Disk.only_now name disk c.read.new.self (D.left disk name) c.read.ensures.time (λ o left. left) (λ o left. c.read.ensures.crash name o left) in
    let second = c.write_whole.ensures.any_moment told name c.requires in
    let so_far = and_then D.moment D.since name disk c.read.new.self c.write_whole.new.disk (D.left disk name) (D.left c.read.new.self name) (LeavesSame (D.left disk name) []) first second (λ o left. inl left) (λ o left. inl (c.read.ensures.crash name o left)) in
    let is : c.as_slice-2.result.now ≡ text (recovered []) = grind (arith, common_steps) in
    let same : recovered c.as_slice-2.result.now ≡ recovered [] = ap recovered is ∙ read_again (recovered []) (are_recovered []) in
    let third = c.put_in_place.ensures.any_moment c.as_slice-2.result.now (c.in_ok-write_whole.ensures.written told) in
    and_then D.moment D.since name disk c.write_whole.new.disk c.put_in_place.new.disk (LeavesSame (D.left disk name) [])
    (λ (o : Option (List ℕ)). D.left c.write_whole.new.disk name o ⊎ (o ≡ Some c.as_slice-2.result.now)) (LeavesSame (D.left disk name) []) so_far third (λ o left. left)
    (λ o left. ⊎_elim (λ was. inl (c.read.ensures.crash name o (c.write_whole.ensures.others told name o c.requires was))) (λ now. inr (c.as_slice-2.result.now, now, same)) left)
