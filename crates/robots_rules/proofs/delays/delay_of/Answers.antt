use Rattle.std.proofs.Common.{◌∙◌, ◌+◌, sym, ap, take}
use Rattle.std.proofs.lemmas.List.{take_rest}
use Rattle.robots_rules.specs.Lines.{without_blanks}
use Rattle.robots_rules.specs.Delays.{delay_by}
use Rattle.robots_rules.proofs.DelayLemmas.{no_colon_delay, at_colon_delay}
use Rattle.robots_rules.proofs.delays.delay_of.Goals as goal

pub returns-in-Some : goal.returns-in-Some
returns-in-Some c =
    let text = c.uncommented-text.result.now in
    c.delay_by.ensures ∙ ap (λ key. delay_by key c.trimmed-in-Some.result.now) c.trimmed.ensures ∙ ap (delay_by (without_blanks (take c.in-Some.colon text))) (c.trimmed-in-Some.ensures ∙ ap without_blanks (take_rest text (c.in-Some.colon + 1)))
    ∙ at_colon_delay text c.args.text.now c.in-Some.colon c.uncommented-text.ensures (sym c.first_colon.ensures ∙ c.in-Some.is)

pub returns-in-None : goal.returns-in-None
returns-in-None c = no_colon_delay c.uncommented-text.result.now c.args.text.now c.uncommented-text.ensures (sym c.first_colon.ensures ∙ c.in-None.is)
