use Rattle.std.proofs.Common.{◌+◌, ◌-◌, length, drop, refl, inl, arith, length-drop}
use Rattle.std.proofs.lemmas.List.{take_all}
use Rattle.follow_filters.proofs.PatternLemmas.{part_class, part_unclosed, part_unit}
use Rattle.follow_filters.proofs.spelling.split_part.Goals as goal

pub returns-then-first-ne91 : goal.returns-then-first-ne91
returns-then-first-ne91 c = (rw c.of.ensures (part_unit c.args.first c.args.text.now c.if-first-ne91.true), omega arith)

pub returns-in_ok-class-in-Some : goal.returns-in_ok-class-in-Some
returns-in_ok-class-in-Some c =
    let text = c.args.text.now in
    let end = c.in-Some.end in
    let whole = take_all (length text - (end + 1)) (drop (end + 1) text) (omega (arith, length-drop (end + 1) text)) in
    rw whole (part_class c.args.first text end _ c.if-first-ne91.false c.in-Some.ensures.place c.in_ok-class-in-Some.ensures, omega (arith, length-drop (end + 1) text))

pub returns-in-None : goal.returns-in-None
returns-in-None c = inl (refl, part_unclosed c.args.first c.args.text.now c.if-first-ne91.false c.in-None.ensures.place)
