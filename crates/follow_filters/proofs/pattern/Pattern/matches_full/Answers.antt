use Rattle.std.proofs.Common.{◌≡◌, ◌∙◌, Some, sym, ap}
use Rattle.follow_filters.specs.Patterns.{read_pattern}
use Rattle.follow_filters.specs.KeptNames.{text_of_name}
use Rattle.follow_filters.proofs.PatternLemmas.{is_file_match-parts}
use Rattle.follow_filters.proofs.pattern.Pattern.matches_full.Goals as goal

pub returns : goal.returns
returns c =
    let parts = c.self.inside.parts in
    let reads : read_pattern c.args.self.now ≡ Some parts = ap read_pattern (sym c.self.view_is) ∙ c.self.invariant in
    c.matches.ensures ∙ sym (is_file_match-parts c.args.ignores_case c.args.self.now (text_of_name c.args.name) parts reads)
