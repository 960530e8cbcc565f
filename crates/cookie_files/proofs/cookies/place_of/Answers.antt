use Rattle.std.proofs.Common.{Bool, length, sym, arith}
use Rattle.std.specs.Prelude.{nat_lt}
use Rattle.cookie_files.specs.Lines.{Cookie}
use Rattle.cookie_files.proofs.CutLemmas.{no_place, place_within}
use Rattle.cookie_files.proofs.cookies.place_of.Goals as goal

pub returns-in-None-clause-place : goal.returns-in-None-clause-place
returns-in-None-clause-place c =
    let p : Cookie → Bool = λ other. nat_lt (length other.path) c.args.path_len in
    let past = no_place p c.args.cookies.now (sym c.in-None.ensures) in
    let within = place_within p c.args.cookies.now in
    omega (arith, past, within)
