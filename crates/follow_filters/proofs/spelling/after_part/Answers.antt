use Rattle.std.proofs.Common.{◌∙◌, ◌+◌, ◌-◌, length, drop, sym, arith, length-drop}
use Rattle.std.proofs.lemmas.List.{take_all}
use Rattle.follow_filters.proofs.PatternLemmas.{part_bad, part_good, part_unit}
use Rattle.follow_filters.proofs.spelling.after_part.Goals as goal

pub returns-then-first-ne91 : goal.returns-then-first-ne91
returns-then-first-ne91 c = (_, part_unit c.args.first c.args.text.now c.if-first-ne91.true, omega arith)

pub returns-then-not-is_spelled : goal.returns-then-not-is_spelled
returns-then-not-is_spelled c = part_bad c.args.first c.args.text.now c.in_ok-end.end c.if-first-ne91.false c.in_ok-end.ensures.place (sym c.is_spelled.ensures ∙ c.if-not-is_spelled.true)

pub returns : goal.returns
returns c =
    let text = c.args.text.now in
    let end = c.in_ok-end.end in
    let whole = take_all (length text - (end + 1)) (drop (end + 1) text) (omega (arith, length-drop (end + 1) text)) in
    let good = part_good c.args.first text end c.if-first-ne91.false c.in_ok-end.ensures.place (sym c.is_spelled.ensures ∙ c.if-not-is_spelled.false) in
    rw whole (good.0, good.1, omega (arith, length-drop (end + 1) text))
