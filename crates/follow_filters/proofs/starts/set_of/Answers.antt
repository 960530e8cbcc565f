-- One start more is one address more.
use Rattle.std.proofs.Common.{◌≡◌, ◌+◌, ◌++◌, ◌∷◌, [], bytes_eq, cond, take, true, rules, arith}
use Rattle.std.specs.HashSet.{contains}
use Rattle.std.proofs.lemmas.List.{take_more}
use Rattle.follow_filters.proofs.StartLaws.{found_push}
use Rattle.follow_filters.proofs.starts.set_of.Goals as goal

pub loop-start-preserved : goal.loop-start-preserved
loop-start-preserved c = λ address.
    let k = c.loop-start.start-index in
    let start = c.start-item.result in
    let more : take (k + 1) c.args.list.now ≡ take k c.args.list.now ++ start ∷ [] = search (rules, take_more) in
    let step : contains bytes_eq c.add.new.set address ≡ cond (bytes_eq start address) true (contains bytes_eq c.loop-start.set address) = search (rules, c.in_ok-add.ensures address) in
    found_push start address _ _ _ _ more (c.loop-start.invariant address) step
