use Rattle.std.proofs.Common.{◌∙◌, sym}
use Rattle.std.proofs.lemmas.Bool.{both_ways}
use Rattle.follow_filters.proofs.TextLemmas.{is_in_domain-same, is_in_domain-below}
use Rattle.follow_filters.proofs.domain.is_at_or_below.Goals as goal

pub returns-then-eq_ignore_ascii_case : goal.returns-then-eq_ignore_ascii_case
returns-then-eq_ignore_ascii_case c =
    c.if-eq_ignore_ascii_case.true ∙ sym (is_in_domain-same c.args.domain.now c.args.host.now (c.eq_ignore_ascii_case.ensures.test.0 c.if-eq_ignore_ascii_case.true))

pub returns-else-eq_ignore_ascii_case : goal.returns-else-eq_ignore_ascii_case
returns-else-eq_ignore_ascii_case c =
    c.is_below.ensures ∙ sym (is_in_domain-below c.args.domain.now c.args.host.now (λ same. both_ways _ c.if-eq_ignore_ascii_case.false (c.eq_ignore_ascii_case.ensures.test.1 same)))
