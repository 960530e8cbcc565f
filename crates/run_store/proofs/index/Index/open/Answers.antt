use Rattle.std.proofs.Common.{◌≡◌, List, ℕ, [], Option, Some, None, string_bytes, sym, ◌∙◌, ap, subst}
use Rattle.std.specs.declared.string.String.{String}
use Rattle.std.specs.declared.alloc.Global.{Global}
use Rattle.entry_lines.specs.Lines.{recovered}
use Rattle.entry_lines.proofs.LineLaws.{read_again, are_recovered}
use Rattle.run_store.specs.Recoveries.{IsReady}
use Rattle.run_store.specs.Lives.{read_of, MayHold}
use Rattle.run_store.proofs.LifeLaws.{lived_holds, passing_by, opened_by}
use Rattle.run_store.proofs.index.Index.open.Goals as goal

pub returns-in-Ok-clause-opened : goal.returns-in-Ok-clause-opened
returns-in-Ok-clause-opened g c =
    let D = g.D.Disk in
    let is : c.as_str.result.now ≡ string_bytes c.args.name = c.as_str.ensures.value in
    let made = c.new.ensures.made in
    let name : string_bytes c.new.result.name ≡ string_bytes c.args.name = ap (λ (n : String Global). string_bytes n) made.1 in
    opened_by D.opened D.seen D.named D.kept D.left D.moment D.since g.met.D.Disk.leaves_named g.met.D.Disk.counts_now g.met.D.Disk.only_now (string_bytes c.args.name) c.as_str.result.now is
    c.args.disk c.recover.new.disk c.new.result made.0 name
    (λ b s. c.new.ensures.ready b (subst (λ (n : List ℕ). IsReady D.opened D.seen D.named D.kept c.recover.new.disk n (recovered b)) is (c.in-Ok.ensures.ready b s)))
    (λ s. c.new.ensures.ready [] (subst (λ (n : List ℕ). IsReady D.opened D.seen D.named D.kept c.recover.new.disk n (recovered [])) is (c.in-Ok.ensures.empty s)))
    (passing_by D.opened D.seen D.named D.kept D.left D.moment D.since g.met.D.Disk.leaves_named g.met.D.Disk.counts_now g.met.D.Disk.only_now (string_bytes c.args.name) c.as_str.result.now is
    c.args.disk c.recover.new.disk c.recover.ensures.any_moment c.recover.ensures.any_moment_of_none)

pub returns-in-Ok-clause-lines : goal.returns-in-Ok-clause-lines
returns-in-Ok-clause-lines g c found s = go found (subst (λ (n : List ℕ). g.D.Disk.seen c.args.disk n found) (sym c.as_str.ensures.value) s)
  where
    go : (f : Option (List ℕ)) → g.D.Disk.seen c.args.disk c.as_str.result.now f → recovered c.in-Ok.lines.items ≡ read_of f
    go None s = ap recovered (c.in-Ok.ensures.lines_of_none s)
    go (Some b) s = ap recovered (c.in-Ok.ensures.lines b s) ∙ read_again (recovered b) (are_recovered b)

pub returns-in-Ok-clause-lives : goal.returns-in-Ok-clause-lives
returns-in-Ok-clause-lives g c runs lived found s =
    let D = g.D.Disk in
    subst (λ (es : List (List ℕ)). MayHold runs es) (sym (returns-in-Ok-clause-lines g c found s))
    (lived_holds D.opened D.seen D.named D.kept D.left D.moment D.since g.met.D.Disk.leaves_named g.met.D.Disk.counts_now g.met.D.Disk.only_now (string_bytes c.args.name) runs c.args.disk lived found s)

pub returns-in-Err-clause-stopped : goal.returns-in-Err-clause-stopped
returns-in-Err-clause-stopped g c =
    let D = g.D.Disk in
    passing_by D.opened D.seen D.named D.kept D.left D.moment D.since g.met.D.Disk.leaves_named g.met.D.Disk.counts_now g.met.D.Disk.only_now (string_bytes c.args.name) c.as_str.result.now c.as_str.ensures.value
    c.args.disk c.recover.new.disk c.recover.ensures.any_moment c.recover.ensures.any_moment_of_none
