-- One line after the other.
use Rattle.std.proofs.Common.{◌≡◌, ◌∙◌, ◌<◌, [], ◌∷◌, length, Some, sym, ap, rules}
use Rattle.std.specs.List.{slice_split}
use Rattle.requests.specs.Fields.{is_nul}
use Rattle.requests.proofs.LineLemmas.{bad-first, bad-later, bad-none, some_cut}
use Rattle.requests.proofs.fields.bad_line.Goals as goal

pub lines-preserved : goal.lines-preserved
lines-preserved c =
    let rest = c.lines.rest.now in
    let first = c.split_lines.result.0.now in
    let later = c.in-Some.behind.now in
    let both = rw c.in-Some.is at c.split_lines.ensures in
    let cut : slice_split is_nul rest ≡ first ∷ slice_split is_nul later = both.0 in
    (search rules, bad-later rest first later cut (sym c.in_ok-is_bad.ensures ∙ c.if-is_bad.false) ∙ c.lines.invariant.1)

pub returns-then-is_bad : goal.returns-then-is_bad
returns-then-is_bad c =
    let rest = c.lines.rest.now in
    let first = c.split_lines.result.0.now in
    let cut = some_cut (slice_split is_nul rest) first (λ r. length r < length rest) c.split_lines.result.1 c.split_lines.ensures in
    sym (bad-first rest first cut.0 cut.1 (sym c.in_ok-is_bad.ensures ∙ c.if-is_bad.true)) ∙ c.lines.invariant.1

pub returns-in-None : goal.returns-in-None
returns-in-None c =
    let rest = c.lines.rest.now in
    let first = c.split_lines.result.0.now in
    let cut : slice_split is_nul rest ≡ first ∷ [] = rw c.in-None.is at c.split_lines.ensures in
    sym (bad-none rest first cut (sym c.in_ok-is_bad.ensures ∙ c.if-is_bad.false)) ∙ c.lines.invariant.1
