use Rattle.std.proofs.Common.{◌+◌, add-one}
use Rattle.mirror_index.proofs.CutLaws.{found_nowhere, found_range}
use Rattle.mirror_upkeep.proofs.reading.cut_line.Goals as goal

pub returns-in-Some : goal.returns-in-Some
returns-in-Some c =
    found_range 10 c.args.text.now c.in-Some.at (c.in-Some.at + 1) (add-one c.in-Some.at) c.in-Some.ensures.0.high c.in-Some.ensures.0.before c.in-Some.ensures.1

pub returns-in-None : goal.returns-in-None
returns-in-None c = found_nowhere 10 c.args.text.now c.in-None.ensures
