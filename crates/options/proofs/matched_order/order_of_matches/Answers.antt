use Rattle.std.proofs.Common.{◌≡◌, ◌∙◌, Some, inl, inr, ⊎_elim, sym, ap}
use Rattle.std.specs.Prelude.{Ok, Err}
use Rattle.clap.specs.Words.{found_of, rows_of}
use Rattle.options.specs.Given.{level_of}
use Rattle.options.proofs.ReadLemmas.{bad-level, bad-filters, bad-start, good-order}
use Rattle.options.proofs.matched_order.order_of_matches.Goals as goal

pub returns-in-Err : goal.returns-in-Err
returns-in-Err c = ⊎_elim (λ fails. inl fails) (λ memory. inr (inl memory)) c.in-Err.ensures

pub returns-in_default : goal.returns-in_default
returns-in_default c =
    inl (bad-level (rows_of (found_of c.args.matches.now)) _ _ _ _ _ _ c.in-Ok.ensures (sym c.in_default.ensures.value))

pub returns-in-Err-read_filters : goal.returns-in-Err-read_filters
returns-in-Err-read_filters c =
    let found = rows_of (found_of c.args.matches.now) in
    let level : level_of found ≡ Some c.in-Some.level = sym c.in-Some.ensures.value in
    ⊎_elim
    (λ fails. inl (bad-filters found _ _ _ _ _ _ c.in-Some.level c.in-Err-read_filters.fault c.in-Ok.ensures level fails))
    (λ unsaid. inr unsaid)
    c.in-Err-read_filters.ensures

pub returns-in-Err-start : goal.returns-in-Err-start
returns-in-Err-start c =
    let found = rows_of (found_of c.args.matches.now) in
    let level : level_of found ≡ Some c.in-Some.level = sym c.in-Some.ensures.value in
    let lists = c.in-Ok-read_filters.ensures in
    let f = c.in-Ok-read_filters.filters in
    ⊎_elim
    (λ fails. inl (bad-start found _ _ _ _ _ _ c.in-Some.level (f.names.given, f.names.excluded) (f.places.given, f.places.excluded) (f.hosts.given, f.hosts.excluded) (f.sought.accepted, f.sought.rejected) f.rows c.in-Err-start.fault c.in-Ok.ensures level lists.0 lists.1 lists.2 lists.3 lists.4 fails ∙ ap Err (sym fails.0)))
    (λ memory. inr (inl memory))
    c.in-Err-start.ensures

pub returns : goal.returns
returns c =
    let found = rows_of (found_of c.args.matches.now) in
    let level : level_of found ≡ Some c.in-Some.level = sym c.in-Some.ensures.value in
    let lists = c.in-Ok-read_filters.ensures in
    let f = c.in-Ok-read_filters.filters in
    good-order found _ _ _ _ _ _ c.in-Some.level (f.names.given, f.names.excluded) (f.places.given, f.places.excluded) (f.hosts.given, f.hosts.excluded) (f.sought.accepted, f.sought.rejected) f.rows c.in-Ok-start.page c.in-Ok.ensures level lists.0 lists.1 lists.2 lists.3 lists.4 c.in-Ok-start.ensures.0
    ∙ ap Ok (sym c.filled.ensures)
