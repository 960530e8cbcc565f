use Rattle.std.proofs.Common.{◌≡◌, ◌∙◌, Some, sym, ap}
use Rattle.part_match.specs.Cuts.{is_match}
use Rattle.follow_filters.specs.Patterns.{is_run, takes_in, read_pattern}
use Rattle.follow_filters.proofs.PatternLemmas.{is_file_match-parts}
use Rattle.follow_filters.proofs.pattern.Pattern.matches_file.Goals as goal

pub returns : goal.returns
returns c =
    let parts = c.self.inside.parts in
    let reads : read_pattern c.args.self.now ≡ Some parts = ap read_pattern (sym c.self.view_is) ∙ c.self.invariant in
    c.matches.ensures ∙ ap (is_match is_run (takes_in c.args.ignores_case) c.self.inside.parts) c.file.ensures ∙ sym (is_file_match-parts c.args.ignores_case c.args.self.now c.args.name.file.now parts reads)
