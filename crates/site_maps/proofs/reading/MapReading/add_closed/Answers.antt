-- A robots line without rules states that its origin is closed.
use Rattle.std.proofs.Common.{true, [], ◌∷◌, ◌++◌, refl, ap, ◌∙◌}
use Rattle.std.specs.Str.{bytes_eq}
use Rattle.std.proofs.lemmas.Result.{err_from_is_err_and}
use Rattle.indexmap.proofs.CallerLemmas.{insert_entry-new}
use Rattle.robots_rules.specs.Access.{RuleSetValue}
use Rattle.site_maps.specs.Lines.{closed}
use Rattle.site_maps.proofs.ReadingLaws.{fresh_of, unrooted, origin_claimed, states_closed, takes_closed}
use Rattle.site_maps.proofs.reading.MapReading.add_closed.Goals as goal

pub returns-in_err-origin : goal.returns-in_err-origin
returns-in_err-origin c = λ above t.
    let p = err_from_is_err_and c.from_residual.result c.from_residual.ensures.1 in
    rw (p.1, p.2) (unrooted above (closed c.args.text.now) c.args.text.now _ tt refl (λ h. h) c.in_err-origin.ensures)

pub returns-in_err-claim_origin : goal.returns-in_err-claim_origin
returns-in_err-claim_origin c = λ above t.
    let text = c.args.text.now in
    let origin = c.in_ok-origin.origin in
    let (named, root, is) = c.in_ok-origin.ensures in
    let p = err_from_is_err_and c.from_residual-in_err-claim_origin.result c.from_residual-in_err-claim_origin.ensures.1 in
    rw (p.1, p.2) (origin_claimed c.args.self.now above (closed text) text origin (record { closed = true; rules = [] }) _ t (states_closed text origin root is) named (c.in_err-claim_origin.ensures (fresh_of c.args.self.now above t)))

pub returns : goal.returns
returns c = λ above t.
    let origin = c.in_ok-origin.origin in
    let nothing : RuleSetValue = record { closed = true; rules = [] } in
    let (named, root, is) = c.in_ok-origin.ensures in
    let (closes, none) = c.in_ok-claim_origin.ensures (fresh_of c.args.self.now above t) in
    let put = insert_entry-new bytes_eq c.claim_origin.new.self.rules origin nothing (rw closes.rules none) in
    takes_closed c.args.self.now _ above c.args.text.now origin t named root is none closes.closed closes.answers
    (rw (c.new.ensures, c.none.ensures.value) at c.in_ok-insert.ensures.entries ∙ put ∙ ap (λ l. l ++ (origin, nothing) ∷ []) closes.rules)

pub returns-in_err-insert : goal.returns-in_err-insert
returns-in_err-insert c = λ above t.
    let p = err_from_is_err_and c.from_residual-in_err-insert.result c.from_residual-in_err-insert.ensures.1 in
    rw (p.1, p.2) tt
