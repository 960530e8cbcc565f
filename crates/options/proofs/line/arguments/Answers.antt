-- The arguments are the options of the table and START.
use Rattle.std.proofs.Common.{◌≡◌, ◌∙◌, ◌++◌, ◌∷◌, [], List, false, map, ap, subst, sym}
use Rattle.std.specs.Prelude.{All}
use Rattle.std.proofs.lemmas.List.{map_push}
use Rattle.std.proofs.lemmas.List.Elements.{All-push}
use Rattle.clap.specs.Words.{Rule, rule_of}
use Rattle.clap.specs.declared.builder.arg.Arg.{Arg}
use Rattle.options.specs.Line.{line_rules, option_rule}
use Rattle.options.specs.Table.{table}
use Rattle.options.proofs.line.arguments.Goals as goal

pub returns : goal.returns
unfolding line_rules
returns c = record {
  rules =
      ap (map rule_of) c.in_ok-push.ensures.items
      ∙ map_push rule_of _ _
      ∙ ap (λ (rules : List Rule). rules ++ rule_of c.start.result ∷ []) c.in_ok-args.ensures.rules
      ∙ ap (λ rows. map option_rule rows ++ rule_of c.start.result ∷ []) c.option_rows.ensures
      ∙ ap (λ (rule : Rule). map option_rule table ++ rule ∷ []) c.start.ensures.rule;
  own = subst (All (λ (a : Arg). a.global ≡ false)) (sym c.in_ok-push.ensures.items) (All-push (λ (a : Arg). a.global ≡ false) _ c.start.result c.in_ok-args.ensures.own c.start.ensures.own);
}
