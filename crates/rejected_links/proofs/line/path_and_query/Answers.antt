-- The path and the query are cut at the mark.
use Rattle.std.proofs.Common.{refl}
use Rattle.rejected_links.proofs.PathLaws.{parts_of, without_slash}
use Rattle.rejected_links.proofs.line.path_and_query.Goals as goal

pub returns-clause-path : goal.returns-clause-path
returns-clause-path c =
    let parts = parts_of c.args.address.now c.requires _ _ _ _ c.unwrap_or.ensures c.path_query-path_query.ensures.value refl c.split_once.ensures.cases in
    without_slash c.args.address.now c.requires _ _ _ c.unwrap_or-2.ensures parts.0 c.strip_prefix.ensures.cases

pub returns-clause-query : goal.returns-clause-query
returns-clause-query c =
    (parts_of c.args.address.now c.requires _ _ _ _ c.unwrap_or.ensures c.path_query-path_query.ensures.value refl c.split_once.ensures.cases).1
