-- The names are by the kinds of the bodies, or without.
use Rattle.std.proofs.Common.{◌∙◌, map, string_bytes}
use Rattle.std.proofs.lemmas.Result.{IfOk-from_err}
use Rattle.retriever.proofs.KindLaws.{ended_are, plain_are}
use Rattle.retriever.proofs.render.names_of.Goals as goal

pub returns-then-naming : goal.returns-then-naming
returns-then-naming g c = record {
  naming = ended_are g.B.HasKind.kind_of c.args.naming.now c.args.harvest.now _ _ c.names_with_endings.result (λ names. map string_bytes names.items) c.if-naming.true c.kept-pages.ensures.value (c.deref.ensures.value ∙ c.in_ok-kinds.ensures) c.names_with_endings.ensures.naming;
  count = rw (← c.kept-pages.ensures.value) c.names_with_endings.ensures.count;
  distinct = c.names_with_endings.ensures.distinct;
  pages = c.kept-pages.ensures.pages;
}

pub returns-in_err-kinds : goal.returns-in_err-kinds
returns-in_err-kinds g c =
    let failed = c.from_residual.ensures.0 in
    record { naming = IfOk-from_err _ _ failed; count = IfOk-from_err _ _ failed; distinct = IfOk-from_err _ _ failed; pages = c.kept-pages.ensures.pages }

pub returns : goal.returns
returns g c = record {
  naming = plain_are g.B.HasKind.kind_of c.args.naming.now c.args.harvest.now _ c.names.result (λ names. map string_bytes names.items) c.if-naming.false c.kept-pages.ensures.value c.names.ensures.naming;
  count = rw (← c.kept-pages.ensures.value) c.names.ensures.count;
  distinct = c.names.ensures.distinct;
  pages = c.kept-pages.ensures.pages;
}
