-- A moved line states an answer.
use Rattle.std.proofs.Common.{[], ◌∷◌}
use Rattle.std.proofs.lemmas.Result.{err_from_is_err_and}
use Rattle.std.proofs.lemmas.List.Elements.{All-head, All-tail}
use Rattle.site_maps.specs.Lines.{moved}
use Rattle.site_inputs.specs.Names.{IsNamed}
use Rattle.site_maps.proofs.ReadingLaws.{unnamed, takes_moved}
use Rattle.site_maps.proofs.reading.MapReading.add_moved.Goals as goal

pub returns-in_err-target : goal.returns-in_err-target
returns-in_err-target c = λ above t.
    let text = c.args.text.now in
    let target = c.args.target.now in
    let p = err_from_is_err_and c.from_residual-in_err-target.result c.from_residual-in_err-target.ensures.1 in
    rw (p.1, p.2) (unnamed above (moved c.args.status text target) target _ tt (λ all. All-head IsNamed target [] (All-tail IsNamed text (target ∷ []) all)) c.in_err-target.ensures)

pub returns : goal.returns
returns c =
    takes_moved c.args.self.now c.add_answer.new.self c.add_answer.result c.args.status c.args.text.now c.args.target.now
    c.in_ok-address.address c.in_ok-target.target c.in_ok-address.ensures c.in_ok-target.ensures c.add_answer.ensures
