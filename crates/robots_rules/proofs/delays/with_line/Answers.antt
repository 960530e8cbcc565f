use Rattle.std.proofs.Common.{◌∙◌, ◌∷◌, max, ap, sym}
use Rattle.robots_rules.specs.declared.delays.FileLine.{FileLine}
use Rattle.robots_rules.specs.inner.AudienceView.{names_one}
use Rattle.robots_rules.specs.inner.DelayTally.{file_line_value, longest_from, tallied}
use Rattle.robots_rules.proofs.delays.with_line.Goals as goal

pub returns-in-Delays : goal.returns-in-Delays
unfolding longest_from
returns-in-Delays c = λ rest.
    let t = c.args.tally in
    ap (λ here. max t.longest (longest_from (names_one c.args.audience) t.is_ours t.is_behind_rule here rest)) c.max.ensures
    ∙ sym (ap (λ (l : FileLine). tallied (names_one c.args.audience) t (file_line_value l ∷ rest)) c.in-Delays.is)
