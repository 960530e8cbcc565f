-- The parser is that of the range, and the argument is else as it was made.
use Rattle.std.proofs.Common.{◌∙◌, Some, ap}
use Rattle.std.specs.Prelude.{pos}
use Rattle.clap.specs.declared.builder.arg.Arg.{Arg}
use Rattle.clap.specs.declared.builder.ValueParser.TheVariants as value
use Rattle.options.proofs.LineLemmas.{from_one, with_parser}
use Rattle.options.proofs.line.number.Goals as goal

pub returns-clause-rule : goal.returns-clause-rule
returns-clause-rule c =
    let given = c.value_parser-2.ensures.given in
    let narrowed = from_one c.args.most c.value_parser.result c.range.result c.from.result _ _ c.ranges.most.fits c.value_parser.ensures c.from.ensures c.new-2.ensures.start c.new-2.ensures.end c.range.ensures in
    with_parser c.new.result c.value_parser-2.result (value.Signed (pos 1) (pos c.args.most)) c.args.name.now c.value_parser-2.ensures.others (given.1 ∙ ap Some (given.2 ∙ narrowed)) c.new.ensures.rule

pub returns-clause-own : goal.returns-clause-own
returns-clause-own c = ap (λ (a : Arg). a.global) c.value_parser-2.ensures.others ∙ c.new.ensures.optional.1
