use Rattle.std.proofs.Common.{◌≡◌, ◌++◌, Some, rules, arith, ◌∙◌, sym, ap, subst, string_bytes}
use Rattle.std.proofs.lemmas.Grind.{common_steps}
use Rattle.memory_disk.specs.Acts.{file_at, IsOpen}
use Rattle.memory_disk.specs.declared.memory.Act.TheVariants.{Put}
use Rattle.memory_disk.proofs.ActLaws.{elapses_push, torn_still, torn_put, named_put}
use Rattle.memory_disk.proofs.memory.MemoryDiskDisk.add.Goals as goal

pub returns-in_err-all-clause-torn : goal.returns-in_err-all-clause-torn
returns-in_err-all-clause-torn c n base tail opened seen are x is = torn_still base tail c.args.bytes.now x (file_at c.args.self.now.acts.items n) seen is

pub returns-in_err-extend_from_slice-clause-torn : goal.returns-in_err-extend_from_slice-clause-torn
returns-in_err-extend_from_slice-clause-torn c n base tail opened seen are x is = torn_still base tail c.args.bytes.now x (file_at c.args.self.now.acts.items n) seen is

pub returns-in_err-at-clause-torn : goal.returns-in_err-at-clause-torn
returns-in_err-at-clause-torn c n base tail opened seen are x is = torn_still base tail c.args.bytes.now x (file_at c.args.self.now.acts.items n) seen is

pub returns-in_err-insert-clause-torn : goal.returns-in_err-insert-clause-torn
returns-in_err-insert-clause-torn c n base tail opened seen are x is =
    let same : c.insert.new.self.items ≡ c.args.self.now.acts.items = search rules in
    torn_still base tail c.args.bytes.now x (file_at c.insert.new.self.items n) (seen ∙ ap (λ l. file_at l n) (sym same)) is

pub returns-clause-named : goal.returns-clause-named
returns-clause-named c n stands = named_put c.in_ok-at.at c.extend_from_slice.new.self c.args.self.now.acts.items c.insert.new.self.items n stands.0 c.in_ok-insert.ensures.items stands.1

pub returns-clause-torn : goal.returns-clause-torn
returns-clause-torn c n base tail opened seen are x is =
    let is_open : string_bytes c.in-Some.open ≡ n = subst (λ o. IsOpen o n) c.in-Some.is opened in
    let at_ : string_bytes c.in_ok-at.at ≡ n = grind (arith, common_steps) in
    let all : c.extend_from_slice.new.self.items ≡ c.in-Some-stands.was.now ++ c.args.bytes.now = grind (arith, common_steps) in
    let was : Some c.in-Some-stands.was.now ≡ file_at c.args.self.now.acts.items n = grind (arith, common_steps) in
    torn_put c.in_ok-at.at c.extend_from_slice.new.self c.args.self.now.acts.items c.insert.new.self.items n base tail c.args.bytes.now c.in-Some-stands.was.now x
    c.in_ok-insert.ensures.items at_ all was seen is

pub returns-clause-time : goal.returns-clause-time
returns-clause-time c = elapses_push (Put c.in_ok-at.at c.extend_from_slice.new.self) c.args.self.now.acts.items c.insert.new.self.items c.in_ok-insert.ensures.items
