use Rattle.std.proofs.Common.{◌∙◌, ◌+◌, sym, ap, take}
use Rattle.std.proofs.lemmas.List.{take_rest}
use Rattle.robots_rules.specs.Lines.{line_by, without_blanks}
use Rattle.robots_rules.proofs.LinesLemmas.{no_colon, at_colon}
use Rattle.robots_rules.proofs.lines.line_of.Goals as goal

pub returns-in-Some : goal.returns-in-Some
returns-in-Some c =
    let text = c.uncommented-text.result.now in
    let place = at_colon text c.args.text.now c.in-Some.colon c.uncommented-text.ensures (sym c.first_colon.ensures ∙ c.in-Some.is) in
    c.line_by.ensures ∙ ap (λ key. line_by key c.trimmed-in-Some.result.now) c.trimmed.ensures ∙ ap (line_by (without_blanks (take c.in-Some.colon text))) (c.trimmed-in-Some.ensures ∙ ap without_blanks (take_rest text (c.in-Some.colon + 1))) ∙ sym place

pub returns-in-None : goal.returns-in-None
returns-in-None c = sym (no_colon c.uncommented-text.result.now c.args.text.now c.uncommented-text.ensures (sym c.first_colon.ensures ∙ c.in-None.is))
