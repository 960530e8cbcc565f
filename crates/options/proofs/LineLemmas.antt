-- The command is one whose matches and refusals are functions of the words.
use Rattle.std.proofs.Common.{◌≡◌, ◌∙◌, ◌<◌, ◌^◌, ℕ, List, [], ◌∷◌, arith, Ok, Err, Option, Some, None, Bool, true, false, if◌then◌else◌, refl, ap, sym, subst, map}
use Rattle.std.specs.Prelude.{All, Result, IfOk, MatchResult, ℤ, pos, bytes_eq, fold}
use Rattle.std.specs.Int.{cast_signed, cast_unsigned, int_min, w64}
use Rattle.std.proofs.lemmas.Int.{clamps, ints, to_z_pos}
use Rattle.std.proofs.lemmas.List.Elements.{All-head, All-tail}
use Rattle.std.proofs.lemmas.Bool.{and_parts}
use Rattle.clap.specs.Words.{AddsArg, AddsInTurn, App, FailsBy, HasKind, HasMatchesOf, NarrowsTo, Rule, Text, fault_of, found_of, is_simple, is_simple_and_free, app_of, matches_of, new_rule, rows_of, rule_of, signed_between, with_rule}
use Rattle.clap.specs.declared.Error.{Error}
use Rattle.clap.specs.declared.builder.arg.Arg.{Arg}
use Rattle.clap.specs.declared.builder.ValueParser.{ValueParser}
use Rattle.clap.specs.declared.builder.ValueParser.TheVariants as value
use Rattle.clap.specs.declared.builder.command.Command.{Command}
use Rattle.clap.specs.declared.parser.matches.ArgMatches.{ArgMatches}
use Rattle.clap.proofs.OnLiterals.{clap_on_literals}
use Rattle.options.specs.Line.{letter_of, line, line_rules, no_options, option_rule, refusals, rows, with_kind, with_letter}
use Rattle.options.specs.inner.Line.{long_form, with_long_form}
use Rattle.options.specs.declared.table.Row.{Row}
use Rattle.options.specs.Table.{table}

pub line_is_simple : is_simple_and_free line ≡ true
unfolding clap_on_literals line line_rules table
line_is_simple = refl

line_simple : is_simple line ≡ true
line_simple = (and_parts _ _ line_is_simple).0

-- what a parse of that command says
pub parsed : {command : App} (r : Result ArgMatches Error) (words : List Text) → command ≡ line → IfOk r (HasMatchesOf command words) → (is_simple_and_free command ≡ true → FailsBy (fault_of command words) r) → MatchResult r (λ m. (refusals words ≡ []) × (rows_of (found_of m) ≡ rows words)) (HasKind (refusals words))
unfolding refusals rows
parsed (Ok m) words same matches kinds = (
  ap (λ app. fault_of app words) (sym same) ∙ kinds (ap is_simple_and_free same ∙ line_is_simple),
  (matches (ap is_simple same ∙ line_simple)).0 ∙ ap (λ app. matches_of app words) same,
)
parsed (Err e) words same matches kinds =
    subst (λ app. HasKind (fault_of app words) e) same (kinds (ap is_simple_and_free same ∙ line_is_simple))

-- an option's rule, from its forms
long_of : (b : Bool) (name : Text) (rule : Rule) → with_long_form (if b then None else Some name) rule ≡ (if b then rule else record rule { long = Some name })
long_of true name rule = refl
long_of false name rule = refl

pub option_of : (row : Row Text) → with_long_form (long_form row.name row.short) (with_letter (letter_of row.short) (with_kind row.kind (new_rule row.name))) ≡ option_rule row
option_of row = long_of (bytes_eq row.name row.short) row.name (with_letter (letter_of row.short) (with_kind row.kind (new_rule row.name)))

-- the parser of a number from 1 to the most
pub from_one : (most : ℕ) (whole parser : ValueParser) (given least last : ℤ) → most < 2 ^ 32 → whole ≡ value.Signed (pos 0) (pos 4294967295) → given ≡ pos most → least ≡ pos 1
    → last ≡ cast_signed w64 (cast_unsigned w64 given) → NarrowsTo whole (Some least) (Some last) parser → parser ≡ value.Signed (pos 1) (pos most)
from_one most whole parser given least last fits all same low high narrows =
    let below : most < 2 ^ 63 = omega arith in
    let lower : int_min (pos 4294967295) (pos most) ≡ pos most = omega (arith, ints, clamps) in
    let end : last ≡ pos most = high ∙ ap (λ z. cast_signed w64 (cast_unsigned w64 z)) same ∙ to_z_pos w64 most below in
    subst (λ l. NarrowsTo (value.Signed (pos 0) (pos 4294967295)) (Some (pos 1)) (Some l) parser) end
    (subst (λ l. NarrowsTo (value.Signed (pos 0) (pos 4294967295)) (Some l) (Some last) parser) low (subst (λ w. NarrowsTo w (Some least) (Some last) parser) all narrows))
    ∙ ap (signed_between (pos 1)) lower

-- the rule of an argument that was given a parser
pub with_parser : (plain parsed : Arg) (parser : ValueParser) (name : Text) → parsed ≡ record plain { value_parser = parsed.value_parser } → parsed.value_parser ≡ Some parser → rule_of plain ≡ new_rule name
    → rule_of parsed ≡ record (new_rule name) { parser = Some parser }
with_parser plain parsed parser name others given rule =
    ap rule_of others ∙ ap (λ (r : Rule). record r { parser = parsed.value_parser }) rule ∙ ap (λ (p : Option ValueParser). record (new_rule name) { parser = p }) given

-- a command that takes arguments in turn has their rules
pub record Gives (args : List Arg) : Type 0 where
  pub follows : (start : App) (old new : Command) → app_of old ≡ start → AddsInTurn AddsArg old args new
      → app_of new ≡ fold with_rule start (map rule_of args)

pub gives : (args : List Arg) → All (λ a. a.global ≡ false) args → Gives args
gives [] own = record { follows = λ start old new begins same. ap app_of (sym same) ∙ begins }
gives (a ∷ args) own = record {
  follows = λ start old new begins turns. (gives args (All-tail (λ a. a.global ≡ false) a args own)).follows (with_rule start (rule_of a)) turns.0 new
      (turns.1.shape (All-head (λ a. a.global ≡ false) a args own) ∙ ap (λ app. with_rule app (rule_of a)) begins) turns.2;
}

-- the command of the line's arguments is the line
pub gives_line : (args : List Arg) (old new : Command) → All (λ a. a.global ≡ false) args → map rule_of args ≡ line_rules → app_of old ≡ no_options → AddsInTurn AddsArg old args new → app_of new ≡ line
unfolding line
gives_line args old new own are begins turns = (gives args own).follows no_options old new begins turns ∙ ap (λ rules. fold with_rule no_options rules) are
