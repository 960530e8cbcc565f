use Rattle.std.proofs.Common.{rules, tests, ◌∙◌, ◌∷◌, [], sym, ap, map}
use Rattle.std.proofs.lemmas.List.{map-append}
use Rattle.std.specs.Option.{option_map}
use Rattle.std.proofs.lemmas.Iterator.Consumers.{YieldsList-at}
use Rattle.std.proofs.lemmas.Iterator.Splits.{YieldsList-from_slice_split}
use Rattle.std.specs.List.{filter_map}
use Rattle.robots_rules.specs.Lines.{is_line_end, used}
use Rattle.robots_rules.specs.Delays.{file_line_of, file_lines_in}
use Rattle.robots_rules.specs.inner.DelayTally.{file_line_value}
use Rattle.robots_rules.proofs.LinesLemmas.{said_more, said_nothing, filter_map-map, drained}
use Rattle.robots_rules.proofs.delays.file_lines_in.Goals as goal

pub loop-text-preserved-in-Continue-1 : goal.loop-text-preserved-in-Continue-1
loop-text-preserved-in-Continue-1 c =
    ap (map file_line_value) c.in_ok-push.ensures.items ∙ map-append file_line_value c.loop-text.lines.items (c.in-Some-file_line_of.line ∷ [])
    ∙ said_more (λ text. file_line_of text.now) (file_line_value c.in-Some-file_line_of.line) (map file_line_value c.loop-text.lines.items) c.loop-text.yielded c.in-Some.text c.loop-text.invariant
    (sym c.file_line_of.ensures ∙ ap (option_map file_line_value) c.in-Some-file_line_of.is)

pub loop-text-preserved : goal.loop-text-preserved
loop-text-preserved c =
    said_nothing (λ text. file_line_of text.now) (map file_line_value c.loop-text.lines.items) c.loop-text.yielded c.in-Some.text c.loop-text.invariant
    (sym c.file_line_of.ensures ∙ ap (option_map file_line_value) c.in_default.is)

pub returns : goal.returns
unfolding file_lines_in
returns c =
    c.loop-text.invariant
    ∙ filter_map-map (λ text. text.now) file_line_of c.loop-text.yielded
    ∙ ap (filter_map file_line_of)
    (drained c.loop-text.yielded _ c.loop-text.yielded_by _ _ c.in-None.is c.next.ensures.steps
    (YieldsList-at c.into_iter-text-iterator.ensures.into_iter_gives
    (YieldsList-from_slice_split _ is_line_end (used c.args.file.now) (c.split-text-items.ensures.rest ∙ c.used.ensures) c.split-text-items.ensures.done c.split-text-items.ensures.closure (λ x r q k. search (rules, tests)))))
