-- What the search finds is the place of the address's outcome.
use Rattle.std.proofs.Common.{rules, Ok, Err, sym}
use Rattle.std.specs.Cmp.Lexicographic.{slice_cmp}
use Rattle.std.specs.Ordering.{nat_cmp}
use Rattle.std.proofs.lemmas.Fn.{always_returns_same}
use Rattle.fetcher.specs.declared.outcome.Outcome.TheVariants.{Leaf}
use Rattle.run_mirror.specs.Mirrors.{Recorded}
use Rattle.run_mirror.proofs.LookupLaws.{outcome_found}
use Rattle.run_mirror.proofs.lookup.outcome_of.Goals as goal

pub returns-in-Ok : goal.returns-in-Ok
returns-in-Ok c =
    let found = c.in-Ok.ensures.position (λ (x : Recorded). slice_cmp nat_cmp x.0 c.args.address.now) (always_returns_same _ _ _ (λ a r f' k. search rules)) in
    sym (outcome_found c.args.records.now c.args.address.now (Ok c.in-Ok.place) c.index-records-place.result c.requires c.in-Ok.ensures.bound found)

pub returns-in-Err : goal.returns-in-Err
returns-in-Err c =
    let found = c.in-Err.ensures.position (λ (x : Recorded). slice_cmp nat_cmp x.0 c.args.address.now) (always_returns_same _ _ _ (λ a r f' k. search rules)) in
    sym (outcome_found c.args.records.now c.args.address.now (Err c.in-Err.field-0) (c.args.address.now, Leaf 0) c.requires c.in-Err.ensures.bound found)
