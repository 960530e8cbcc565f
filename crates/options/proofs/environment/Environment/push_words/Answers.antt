-- The words of one variable after the other.
use Rattle.std.proofs.Common.{◌∙◌, ◌++◌, List, ap, sym}
use Rattle.std.specs.Prelude.{codes, map, option_map, string_bytes}
use Rattle.std.proofs.lemmas.Result.{on_ok_weaker}
use Rattle.clap.specs.Walk.{Text}
use Rattle.options.specs.Environment.{command_words}
use Rattle.options.proofs.TextLemmas.{four}
use Rattle.options.proofs.environment.Environment.push_words.Goals as goal

pub returns : goal.returns
returns c =
    let https : List Text = command_words (codes "https_proxy") (option_map string_bytes c.self.inside.https_proxy) in
    let http : List Text = command_words (codes "http_proxy") (option_map string_bytes c.self.inside.http_proxy) in
    let without : List Text = command_words (codes "no_proxy") (option_map string_bytes c.self.inside.no_proxy) in
    rw (sym c.self.view_is) (on_ok_weaker c.push_command-3.result
    (λ says.
    says
    ∙ ap (λ (l : List Text). l ++ without) (c.in_ok-push_command-2.ensures ∙ ap (λ (l : List Text). l ++ http) c.in_ok-push_command.ensures)
    ∙ sym (four (map string_bytes c.args.words.now.items) https http without))
    c.push_command-3.ensures)
