use Rattle.std.proofs.Common.{◌≡◌, map, true, false, replicate, sym, ap, ◌∙◌, rules}
use Rattle.std.proofs.lemmas.Bool.{cond-true, cond-false}
use Rattle.std.specs.List.{list_all, concat}
use Rattle.percent_encoding.specs.Percent.{percent_encode_byte}
use Rattle.local_names.specs.declared.unit.Unit.TheVariants.{Escape}
use Rattle.local_names.specs.PlainNames.{is_dot}
use Rattle.local_names.specs.inner.Units.{unit_text, is_dot_unit}
use Rattle.local_names.proofs.UnitLaws.{filled, dots_together}
use Rattle.local_names.proofs.unit.escape_dots.Goals as goal

pub returns-then-are_dots : goal.returns-then-are_dots
returns-then-are_dots c =
    let old = c.args.units.now in
    let units = map unit_text old.items in
    let dots : list_all is_dot (concat units) ≡ true = sym (dots_together old.items) ∙ ap (list_all is_dot_unit) (sym c.deref.ensures.value) ∙ sym c.are_dots.ensures ∙ c.if-are_dots.true in
    ap (map unit_text) (c.fill.ensures.items (λ y k. search rules) ∙ ap (λ n. replicate n (Escape 46)) old.ok.0)
    ∙ filled old.items
    ∙ sym (cond-true (list_all is_dot (concat units)) (map (λ dot. percent_encode_byte 46) units) units dots)

pub returns-else-are_dots : goal.returns-else-are_dots
returns-else-are_dots c =
    let old = c.args.units.now in
    let units = map unit_text old.items in
    let mixed : list_all is_dot (concat units) ≡ false = sym (dots_together old.items) ∙ ap (list_all is_dot_unit) (sym c.deref.ensures.value) ∙ sym c.are_dots.ensures ∙ c.if-are_dots.false in
    sym (cond-false (list_all is_dot (concat units)) (map (λ dot. percent_encode_byte 46) units) units mixed)
