-- A colon is before the port, or there is none.
use Rattle.std.proofs.Common.{Some, None, arith, ap, refl, sym, ◌∙◌, not}
use Rattle.std.proofs.lemmas.Str.Pattern.{split_parts}
use Rattle.clap.proofs.CutLemmas.{after_first-at, before_first-at, list_any-Lacks, list_any-at}
use Rattle.options.specs.Start.{is_bare}
use Rattle.options.proofs.start.is_bare.Goals as goal

pub returns-in-Some : goal.returns-in-Some
returns-in-Some c =
    let host = c.in-Some.host.now in
    let port = c.in-Some.port.now in
    let parts = split_parts 58 c.args.front.now (Some (c.in-Some.host, c.in-Some.port)) c.in-Some.ensures.cases (omega arith) in
    c.is_pair.ensures ∙ sym (ap is_bare parts.0 ∙ rw (list_any-at 58 host port, before_first-at 58 host port parts.1, after_first-at 58 host port parts.1) refl)

pub returns-in-None : goal.returns-in-None
returns-in-None c =
    let lacks = split_parts 58 c.args.front.now None c.in-None.ensures.cases (omega arith) in
    ap not c.is_empty.ensures ∙ sym (rw (list_any-Lacks 58 c.args.front.now lacks) refl)
