use Rattle.std.proofs.Common.{◌≡◌, ◌∙◌, ◌<◌, [], ◌∷◌, length, Some, inr, refl, sym, ap, subst, rules}
use Rattle.std.proofs.lemmas.Result.{err_from_is_err_and}
use Rattle.follow_filters.specs.Elements.{IsFaultOf}
use Rattle.follow_filters.specs.Patterns.{parts_spelled}
use Rattle.follow_filters.specs.Directories.{names_in, read_names}
use Rattle.follow_filters.proofs.ClassLemmas.{behind}
use Rattle.follow_filters.proofs.DirectoryLemmas.{names-more, names-last, names_fault, first_name}
use Rattle.follow_filters.proofs.directory.read_names.Goals as goal

pub loop-names-preserved : goal.loop-names-preserved
loop-names-preserved c =
    let rest = c.loop-names.rest.now in
    let first = c.split_name.result.0.now in
    let later = c.in-Some.behind.now in
    let both = rw c.in-Some.is at c.split_name.ensures in
    let cut : names_in rest ≡ first ∷ names_in later = both.0 in
    let name : parts_spelled first ≡ Some c.in_ok-name.name = ap parts_spelled (sym c.as_bytes.ensures.value) ∙ c.in_ok-name.ensures in (
      search rules,
      ap (λ xs. behind xs (read_names later)) c.in_ok-push.ensures.items
          ∙ names-more c.loop-names.names.items rest first later c.in_ok-name.name cut name
          ∙ c.loop-names.invariant.1,
    )

pub returns-in_err-name : goal.returns-in_err-name
returns-in_err-name c =
    let p = err_from_is_err_and c.from_residual.result c.from_residual.ensures.1 in
    let rest = c.loop-names.rest.now in
    let first = c.split_name.result.0.now in
    let cut = first_name (names_in rest) first (λ r. length r < length rest) c.split_name.result.1 c.split_name.ensures in
    let fault : IsFaultOf (parts_spelled first) c.in_err-name.field-0.0 = subst (λ t. IsFaultOf (parts_spelled t) c.in_err-name.field-0.0) c.as_bytes.ensures.value c.in_err-name.ensures in
    rw (p.1, p.2) (names_fault c.loop-names.names.items c.args.text.now rest first cut.0 c.in_err-name.field-0.0 c.loop-names.invariant.1 cut.1 fault)

pub returns-in_err-push : goal.returns-in_err-push
returns-in_err-push c =
    let p = err_from_is_err_and c.from_residual-in_err-push.result c.from_residual-in_err-push.ensures.1 in
    rw (p.1, p.2) (inr refl)

pub returns-in-None : goal.returns-in-None
returns-in-None c =
    let rest = c.loop-names.rest.now in
    let first = c.split_name.result.0.now in
    let cut : names_in rest ≡ first ∷ [] = rw c.in-None.is at c.split_name.ensures in
    let name : parts_spelled first ≡ Some c.in_ok-name.name = ap parts_spelled (sym c.as_bytes.ensures.value) ∙ c.in_ok-name.ensures in
    sym c.loop-names.invariant.1
    ∙ names-last c.loop-names.names.items rest first c.in_ok-name.name cut name
    ∙ ap Some (sym c.in_ok-push.ensures.items)
