-- A robots line opens its origin.
use Rattle.std.proofs.Common.{[], ◌++◌, refl, sym, ◌∙◌}
use Rattle.std.proofs.lemmas.Result.{err_from_is_err_and}
use Rattle.robots_rules.specs.Groups.{rules_in}
use Rattle.site_maps.specs.RuleLines.{file_head}
use Rattle.site_maps.specs.Lines.{robots}
use Rattle.site_maps.proofs.ReadingLaws.{fresh_of, unrooted, origin_claimed, states_robots, takes_robots}
use Rattle.site_maps.proofs.reading.MapReading.add_robots.Goals as goal

pub returns-in_err-origin : goal.returns-in_err-origin
returns-in_err-origin c = λ above t.
    let p = err_from_is_err_and c.from_residual.result c.from_residual.ensures.1 in
    rw (p.1, p.2) (unrooted above (robots c.args.text.now) c.args.text.now _ tt refl (λ h. h) c.in_err-origin.ensures)

pub returns-in_err-claim_origin : goal.returns-in_err-claim_origin
returns-in_err-claim_origin c = λ above t.
    let text = c.args.text.now in
    let origin = c.in_ok-origin.origin in
    let (named, root, is) = c.in_ok-origin.ensures in
    let p = err_from_is_err_and c.from_residual-in_err-claim_origin.result c.from_residual-in_err-claim_origin.ensures.1 in
    rw (p.1, p.2) (origin_claimed c.args.self.now above (robots text) text origin (rules_in (file_head ++ [])) _ t (states_robots text origin root is) named (c.in_err-claim_origin.ensures (fresh_of c.args.self.now above t)))

pub returns : goal.returns
returns c = λ above t.
    let (named, root, is) = c.in_ok-origin.ensures in
    let (closes, none) = c.in_ok-claim_origin.ensures (fresh_of c.args.self.now above t) in
    let own = c.in_ok-robots.ensures.origin in
    takes_robots c.args.self.now c.claim_origin.new.self _ above c.args.text.now c.in_ok-robots.robots t closes named root (is ∙ sym own) (rw own none)
    c.in_ok-robots.ensures.file refl refl refl
