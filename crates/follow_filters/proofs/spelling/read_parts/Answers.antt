use Rattle.std.proofs.Common.{◌≡◌, ◌∙◌, sym, ap, subst, Some, MatchResult}
use Rattle.follow_filters.specs.Elements.{IsFaultOf}
use Rattle.follow_filters.proofs.PatternLemmas.{read_pattern-spelled, read_pattern-suffix}
use Rattle.follow_filters.proofs.spelling.read_parts.Goals as goal

pub returns-then-has_wildcard : goal.returns-then-has_wildcard
returns-then-has_wildcard c =
    subst (λ read. MatchResult c.spelled_parts.result (λ v. read ≡ Some v.items) (IsFaultOf read))
    (sym (read_pattern-spelled c.args.element.now (sym c.has_wildcard.ensures ∙ c.if-has_wildcard.true))) c.spelled_parts.ensures

pub returns-in_ok-suffix_parts : goal.returns-in_ok-suffix_parts
returns-in_ok-suffix_parts c =
    read_pattern-suffix c.args.element.now (sym c.has_wildcard.ensures ∙ c.if-has_wildcard.false) ∙ ap Some (sym c.in_ok-suffix_parts.ensures)
