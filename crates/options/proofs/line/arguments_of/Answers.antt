-- A turn adds the argument of one row more.
use Rattle.std.proofs.Common.{◌≡◌, ◌∙◌, ◌++◌, ◌∷◌, [], List, false, get_or, map, take, ap, subst, sym}
use Rattle.std.specs.Prelude.{All}
use Rattle.std.proofs.lemmas.List.{map_more, map_push}
use Rattle.std.proofs.lemmas.List.Elements.{All-push}
use Rattle.clap.specs.Words.{Rule, rule_of}
use Rattle.clap.specs.declared.builder.arg.Arg.{Arg}
use Rattle.options.specs.Line.{option_rule}
use Rattle.options.proofs.LineLemmas.{option_of}
use Rattle.options.specs.inner.Table.{row_in}
use Rattle.options.proofs.line.arguments_of.Goals as goal

pub loop-row-preserved : goal.loop-row-preserved
loop-row-preserved c =
    let before = c.loop-row in
    let at = before.row-index in
    let rows = c.args.rows.now in
    let row = c.option.result in (
      ap (map rule_of) c.in_ok-push.ensures.items
          ∙ map_push rule_of before.args.items row
          ∙ ap (λ (rules : List Rule). rules ++ rule_of row ∷ []) before.invariant.0
          ∙ ap (λ (rule : Rule). map option_rule (map row_in (take at rows)) ++ rule ∷ []) (c.option.ensures.rule ∙ option_of (row_in (get_or rows at _)))
          ∙ sym (ap (map option_rule) (map_more row_in rows at _ c.loop-row-test.true) ∙ map_push option_rule (map row_in (take at rows)) _),
      subst (All (λ (a : Arg). a.global ≡ false)) (sym c.in_ok-push.ensures.items) (All-push (λ (a : Arg). a.global ≡ false) before.args.items row before.invariant.1 c.option.ensures.own),
    )
