use Rattle.std.proofs.Common.{sym, arith}
use Rattle.address.proofs.UrlLemmas.{dir_len_root}
use Rattle.address.proofs.http_url.dir_len.Goals as goal

pub returns-in-Some-clause-value : goal.returns-in-Some-clause-value
returns-in-Some-clause-value c = sym (rw c.in-Some.is at (dir_len_root c.args.path.now c.rfind.result c.rfind.ensures.cases)).0

pub returns-in-Some-clause-within : goal.returns-in-Some-clause-within
returns-in-Some-clause-within c =
    let at = rw c.in-Some.is at (dir_len_root c.args.path.now c.rfind.result c.rfind.ensures.cases) in
    omega arith

pub returns-in-None-clause-value : goal.returns-in-None-clause-value
returns-in-None-clause-value c = sym (rw c.in-None.is at (dir_len_root c.args.path.now c.rfind.result c.rfind.ensures.cases))
