-- The text reads as an address, under which an answer is looked up.
use Rattle.std.proofs.Common.{◌∙◌, sym, subst}
use Rattle.std.specs.Prelude.{IsSome}
use Rattle.std.specs.Map.{lookup}
use Rattle.std.specs.Str.{bytes_eq}
use Rattle.std.proofs.lemmas.Result.{err_from_is_err_and}
use Rattle.site_inputs.proofs.NameLaws.{records as names}
use Rattle.site_records.proofs.EntryLaws.{none_left, unread}
use Rattle.site_records.proofs.reading.RecordReading.unstated.Goals as goal

pub returns-in_err-at : goal.returns-in_err-at
returns-in_err-at c =
    let p = err_from_is_err_and c.from_residual.result c.from_residual.ensures.1 in
    rw (p.1, p.2) (unread _ _ _ c.in_err-at.ensures)

pub returns-then-contains_key : goal.returns-then-contains_key
returns-then-contains_key c =
    let k = names c.args.text.now c.in_ok-at.at c.in_ok-at.ensures in
    (k.0, subst (λ at. IsSome (lookup (bytes_eq at) c.args.self.now.answers.entries)) (sym k.1) (sym c.contains_key.ensures ∙ c.if-contains_key.true))

pub returns : goal.returns
returns c =
    let k = names c.args.text.now c.in_ok-at.at c.in_ok-at.ensures in
    (k.0, k.1, none_left _ _ c.contains_key.ensures c.if-contains_key.false)
