-- The rules at the end of a chain go after the others.
use Rattle.std.proofs.Common.{◌+◌, sym, ap}
use Rattle.std.proofs.lemmas.Result.{err_from_is_err_and}
use Rattle.site_records.specs.EntryLines.{chain}
use Rattle.site_records.specs.Entries.{chained}
use Rattle.site_records.proofs.EntryLaws.{refused_rules, wrong_chain, takes, chain_states}
use Rattle.site_records.proofs.reading.RecordReading.add_chain.Goals as goal

pub returns-in_err-origin : goal.returns-in_err-origin
returns-in_err-origin c =
    let p = err_from_is_err_and c.from_residual.result c.from_residual.ensures.1 in
    rw (p.1, p.2) (refused_rules c.args.self.now (chain c.args.text.now c.args.count) c.args.behind.now _ (λ h. h) (λ k. k) c.in_err-origin.ensures)

pub returns-in_err-hops : goal.returns-in_err-hops
returns-in_err-hops c =
    let (named, root, is, vacant) = c.in_ok-origin.ensures in
    let p = err_from_is_err_and c.from_residual-in_err-hops.result c.from_residual-in_err-hops.ensures.1 in
    rw (p.1, p.2) (wrong_chain c.args.self.now c.args.text.now c.args.count c.args.behind.now c.in_ok-origin.origin _ named root is vacant c.in_err-hops.ensures)

pub returns-in_err-keep_chain : goal.returns-in_err-keep_chain
returns-in_err-keep_chain c =
    let p = err_from_is_err_and c.from_residual-in_err-keep_chain.result c.from_residual-in_err-keep_chain.ensures.1 in
    rw (p.1, p.2) tt

pub returns : goal.returns
returns c =
    let (named, root, is, _) = c.in_ok-origin.ensures in
    let (are, long, same, admitted) = c.in_ok-hops.ensures in
    let hops = c.in_ok-hops.hops in
    takes c.args.self.now c.keep_chain.new.self (chain c.args.text.now c.args.count) c.args.behind.now _ (chained hops.of hops.hops) named root
    (chain_states c.args.self.now.links c.args.text.now c.args.count c.args.behind.now c.in_ok-hops.after.now c.in_ok-origin.origin hops are long admitted same is) c.in_ok-keep_chain.ensures (ap (λ n. n + 1) (sym long))
