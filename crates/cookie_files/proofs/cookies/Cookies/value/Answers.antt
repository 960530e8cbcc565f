use Rattle.std.proofs.Common.{◌≡◌, ◌∙◌, sym, ap, arith}
use Rattle.std.proofs.lemmas.Bool.{eqb-true}
use Rattle.cookie_files.specs.Matches.{asked_of, sent, value_of}
use Rattle.cookie_files.proofs.ValueLemmas.{no_value}
use Rattle.cookie_files.proofs.Meaning.{goes-Decides}
use Rattle.cookie_files.proofs.cookies.Cookies.value.Goals as goal

pub returns-then-is_empty-clause-value : goal.returns-then-is_empty-clause-value
returns-then-is_empty-clause-value c =
    let text = c.in_ok-text.text.items in
    let cookies = sent (asked_of c.args.at.now) c.args.now c.args.self.now in
    let is : text ≡ value_of cookies =
    c.in_ok-text.ensures.value
    ∙ ap (λ asked. value_of (sent asked c.args.now c.as_slice.result.now)) c.asked_of.ensures
    ∙ ap (λ items. value_of (sent (asked_of c.args.at.now) c.args.now items)) (c.as_slice.ensures.value ∙ c.self.view_is) in
    let none : c.in_ok-text.text.len ≡ 0 = eqb-true _ _ (sym c.if-is_empty.ensures) in
    no_value cookies text is (let size = c.in_ok-text.text.ok in omega (arith, none, size.0))

pub returns-then-is_empty-clause-means : goal.returns-then-is_empty-clause-means
returns-then-is_empty-clause-means c cookie = goes-Decides (asked_of c.args.at.now) c.args.now cookie

pub returns-in_err-text-clause-means : goal.returns-in_err-text-clause-means
returns-in_err-text-clause-means c cookie = goes-Decides (asked_of c.args.at.now) c.args.now cookie

pub returns-clause-means : goal.returns-clause-means
returns-clause-means c cookie = goes-Decides (asked_of c.args.at.now) c.args.now cookie
