-- The entry of the line, if it may follow.
use Rattle.std.proofs.Common.{◌≡◌, refl}
use Rattle.std.proofs.lemmas.Result.{IfOk-weaker}
use Rattle.mirror_index.specs.Entries.{Entry, entry_line}
use Rattle.mirror_index.proofs.IndexLaws.{last_is}
use Rattle.mirror_index.proofs.StepLaws.{added_by, some_at}
use Rattle.mirror_index.proofs.reading.add_line.Goals as goal

pub returns-in-Some : goal.returns-in-Some
returns-in-Some c =
    IfOk-weaker c.add.result _ _
    (λ b says. added_by c.args.index.now c.add.new.self c.args.line.now c.in-Some.entry b (some_at (λ (e : Entry). c.args.line.now ≡ entry_line e) c.in_ok-read.read c.in-Some.entry c.in-Some.is c.in_ok-read.ensures.is)
    (λ e is same. let found = c.in_ok-read.ensures.back e is same in cc (found, c.in-Some.is)) says)
    c.add.ensures.added

pub returns-in-None : goal.returns-in-None
returns-in-None c = (refl, λ e index same. let found = c.in_ok-read.ensures.back e (last_is c.args.index.now e index) same in cc (found, c.in-None.is))
