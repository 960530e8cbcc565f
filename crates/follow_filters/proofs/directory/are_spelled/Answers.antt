use Rattle.std.proofs.Common.{◌≡◌, ◌∙◌, ◌<◌, true, false, [], ◌∷◌, is_some, length, sym, ap, rules}
use Rattle.follow_filters.specs.Patterns.{parts_spelled}
use Rattle.follow_filters.specs.Directories.{names_in}
use Rattle.follow_filters.proofs.DirectoryLemmas.{names-some, names-some-last, names-none, first_name}
use Rattle.follow_filters.proofs.directory.are_spelled.Goals as goal

pub loop-behind-preserved : goal.loop-behind-preserved
loop-behind-preserved c =
    let rest = c.loop-behind.rest.now in
    let first = c.split_name.result.0.now in
    let both = rw c.in-Some.is at c.split_name.ensures in
    let spelled : is_some (parts_spelled first) ≡ true = ap (λ t. is_some (parts_spelled t)) (sym c.as_bytes.ensures.value) ∙ sym c.is_spelled.ensures ∙ c.if-not-is_spelled.false in
    (search rules, names-some rest first c.in-Some.behind.now both.0 spelled ∙ c.loop-behind.invariant.1)

pub returns-then-not-is_spelled : goal.returns-then-not-is_spelled
returns-then-not-is_spelled c =
    let rest = c.loop-behind.rest.now in
    let first = c.split_name.result.0.now in
    let cut = first_name (names_in rest) first (λ r. length r < length rest) c.split_name.result.1 c.split_name.ensures in
    let bad : is_some (parts_spelled first) ≡ false = ap (λ t. is_some (parts_spelled t)) (sym c.as_bytes.ensures.value) ∙ sym c.is_spelled.ensures ∙ c.if-not-is_spelled.true in
    sym (sym c.loop-behind.invariant.1 ∙ names-none rest first cut.0 cut.1 bad)

pub returns-in-None : goal.returns-in-None
returns-in-None c =
    let rest = c.loop-behind.rest.now in
    let first = c.split_name.result.0.now in
    let cut : names_in rest ≡ first ∷ [] = rw c.in-None.is at c.split_name.ensures in
    let spelled : is_some (parts_spelled first) ≡ true = ap (λ t. is_some (parts_spelled t)) (sym c.as_bytes.ensures.value) ∙ sym c.is_spelled.ensures ∙ c.if-not-is_spelled.false in
    sym (sym c.loop-behind.invariant.1 ∙ names-some-last rest first cut spelled)
