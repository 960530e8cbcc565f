use Rattle.std.proofs.Common.{◌∙◌, ap, sym, arith, map}
use Rattle.std.proofs.lemmas.List.{drop_all}
use Rattle.robots_rules.specs.inner.AudienceView.{names_one}
use Rattle.robots_rules.specs.inner.DelayTally.{file_line_value, tallied}
use Rattle.robots_rules.proofs.DelayLemmas.{tallied-groups}
use Rattle.robots_rules.proofs.delays.longest_delay.Goals as goal

pub returns : goal.returns
returns c =
    let names = names_one c.args.audience in
    let lines = c.args.lines.now in
    c.with_group.ensures names
    ∙ ap (λ xs. tallied names c.loop-line.tally (map file_line_value xs)) (sym (drop_all c.loop-line.line-index lines (omega arith)))
    ∙ c.loop-line.invariant
    ∙ tallied-groups names (map file_line_value lines)
