-- A rule line adds to its origin's file.
use Rattle.std.proofs.Common.{Some, refl, ap, ◌∙◌}
use Rattle.std.proofs.lemmas.Result.{err_from_is_err_and}
use Rattle.site_maps.proofs.ReadingLaws.{below_origin, takes_rule}
use Rattle.site_maps.proofs.reading.MapReading.add_rule.Goals as goal

pub returns-in_err-add-in-Some-Robots : goal.returns-in_err-add-in-Some-Robots
returns-in_err-add-in-Some-Robots c = λ above t.
    let was = c.in-Some-Robots.is ∙ ap Some c.in-Some-Robots.field-0-is in
    let p = err_from_is_err_and c.from_residual.result c.from_residual.ensures.1 in
    rw (p.1, p.2) (below_origin c.args.self.now above c.in-Some-Robots.robots t was)

pub returns-in_ok-add-in-Some-Robots : goal.returns-in_ok-add-in-Some-Robots
returns-in_ok-add-in-Some-Robots c = λ above t.
    let was = c.in-Some-Robots.is ∙ ap Some c.in-Some-Robots.field-0-is in
    takes_rule c.args.self.now _ above c.args.kind c.args.rest.now c.in-Some-Robots.robots c.add.new.self t was refl
    c.in_ok-add-in-Some-Robots.ensures.origin c.in_ok-add-in-Some-Robots.ensures.file refl refl
