use Rattle.std.proofs.Common.{◌≡◌, ◌≢◌, ◌∙◌, length, refl, ap, inl, rules, tests}
use Rattle.std.proofs.lemmas.Result.{err_from_is_err_and}
use Rattle.follow_filters.specs.Classes.{class_with}
use Rattle.follow_filters.proofs.ClassLemmas.{class_fault, no_class, some_class}
use Rattle.follow_filters.proofs.class.Class.read.Goals as goal

pub returns-in_err-ranges : goal.returns-in_err-ranges
returns-in_err-ranges c =
    let p = err_from_is_err_and c.from_residual.result c.from_residual.ensures.1 in
    let split = c.split_negation-is_negated in
    rw (p.1, p.2) (class_fault c.args.inner.now split.result.1.now split.result.0 c.in_err-ranges.field-0.0 split.ensures c.in_err-ranges.ensures)

pub returns-then-is_empty : goal.returns-then-is_empty
returns-then-is_empty c =
    let split = c.split_negation-is_negated in
    let ranges = c.in_ok-ranges.ranges.items in
    let none : length ranges ≡ 0 = search (rules, tests) in
    inl (refl, split.ensures ∙ ap (class_with split.result.0) c.in_ok-ranges.ensures ∙ no_class split.result.0 ranges none)

pub returns : goal.returns
returns c =
    let split = c.split_negation-is_negated in
    let ranges = c.in_ok-ranges.ranges.items in
    let some : length ranges ≢ 0 = search (rules, tests) in
    split.ensures ∙ ap (class_with split.result.0) c.in_ok-ranges.ensures ∙ some_class split.result.0 ranges some
