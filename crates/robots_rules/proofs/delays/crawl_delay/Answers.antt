use Rattle.std.proofs.Common.{◌≡◌, ◌∙◌, List, ap, map}
use Rattle.std.specs.List.{list_any}
use Rattle.robots_rules.specs.Lines.{LineValue, lines_in}
use Rattle.robots_rules.specs.Groups.{Group, groups_of, names_us}
use Rattle.robots_rules.specs.Delays as values
use Rattle.robots_rules.specs.Delays.{crawl_delay_in, delay_groups_of, file_lines_in, longest_naming}
use Rattle.robots_rules.specs.declared.groups.Audience.{Audience}
use Rattle.robots_rules.specs.inner.LineView.{line_value}
use Rattle.robots_rules.specs.inner.AudienceView.{audience_by, names_one}
use Rattle.robots_rules.specs.inner.DelayTally.{file_line_value}
use Rattle.robots_rules.proofs.DelayLemmas.{audience_longest, same_agents}
use Rattle.robots_rules.proofs.delays.crawl_delay.Goals as goal

pub returns-clause-delay : goal.returns-clause-delay
unfolding crawl_delay_in
returns-clause-delay c =
    let file = c.args.file.now in
    let groups = (groups_of (lines_in file)).groups in
    let delay_groups = (delay_groups_of (file_lines_in file)).groups in
    let said = ap (map line_value) c.deref.ensures.value ∙ c.in_ok-lines_in.ensures in
    let stated = ap (map file_line_value) c.deref-2.ensures.value ∙ c.in_ok-lines.ensures in
    let whose : c.audience_of-audience.result ≡ audience_by groups = c.audience_of-audience.ensures ∙ ap (λ (lines : List LineValue). audience_by (groups_of lines).groups) said in
    c.from_nanos.ensures
    ∙ c.longest_delay.ensures
    ∙ ap (λ (lines : List values.FileLine). longest_naming (names_one c.audience_of-audience.result) (delay_groups_of lines).groups) stated
    ∙ ap (λ (a : Audience). longest_naming (names_one a) delay_groups) whose
    ∙ audience_longest (list_any (λ (group : Group). list_any names_us group.agents) groups) delay_groups

pub returns-clause-groups : goal.returns-clause-groups
returns-clause-groups c = same_agents c.args.file.now

pub returns-in_err-lines_in-clause-groups : goal.returns-in_err-lines_in-clause-groups
returns-in_err-lines_in-clause-groups c = same_agents c.args.file.now

pub returns-in_err-lines-clause-groups : goal.returns-in_err-lines-clause-groups
returns-in_err-lines-clause-groups c = same_agents c.args.file.now
