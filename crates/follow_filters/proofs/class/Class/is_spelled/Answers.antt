use Rattle.std.proofs.Common.{◌≢◌, ◌∙◌, is_some, length, sym, ap, rules, tests}
use Rattle.follow_filters.proofs.ClassLemmas.{class_with-some}
use Rattle.follow_filters.proofs.class.Class.is_spelled.Goals as goal

pub returns-then-not-is_empty : goal.returns-then-not-is_empty
returns-then-not-is_empty c =
    let split = c.split_negation in
    let some : length split.result.1.now ≢ 0 = search (rules, tests) in
    c.are_spelled.ensures ∙ sym (ap is_some split.ensures ∙ class_with-some split.result.0 split.result.1.now some)
