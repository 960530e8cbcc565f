-- The text reads as an origin's address, under which rules are looked up.
use Rattle.std.proofs.Common.{◌∙◌, sym, subst, inr}
use Rattle.std.specs.Prelude.{IsSome}
use Rattle.std.specs.Map.{lookup}
use Rattle.std.specs.Str.{bytes_eq}
use Rattle.std.proofs.lemmas.Result.{err_from_is_err_and}
use Rattle.site_records.proofs.EntryLaws.{none_left, unrooted}
use Rattle.site_records.proofs.reading.RecordReading.unruled.Goals as goal

pub returns-in_err-origin : goal.returns-in_err-origin
returns-in_err-origin c =
    let p = err_from_is_err_and c.from_residual.result c.from_residual.ensures.1 in
    rw (p.1, p.2) (unrooted _ _ _ c.in_err-origin.ensures)

pub returns-then-contains_key : goal.returns-then-contains_key
returns-then-contains_key c =
    let (named, _, is) = c.in_ok-origin.ensures in
    (named, inr (subst (λ of. IsSome (lookup (bytes_eq of) c.args.self.now.rules.entries)) (sym is) (sym c.contains_key.ensures ∙ c.if-contains_key.true)))

pub returns : goal.returns
returns c =
    let (named, root, is) = c.in_ok-origin.ensures in
    (named, root, is, none_left _ _ c.contains_key.ensures c.if-contains_key.false)
