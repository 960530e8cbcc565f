-- The rules of a robots file go after the others.
use Rattle.std.proofs.Common.{◌∙◌, ap, sym, refl, arith, rules}
use Rattle.robots_rules.specs.Access.{RuleSetValue}
use Rattle.std.proofs.lemmas.Result.{err_from_is_err_and}
use Rattle.site_records.specs.EntryLines.{file}
use Rattle.site_records.specs.Entries.{HasBytes, ruled}
use Rattle.answer_notes.specs.HopChains.{rules_of_hops}
use Rattle.site_records.proofs.EntryLaws.{refused_rules, without_bytes, takes, file_states}
use Rattle.site_records.proofs.FirstVersionLaws.{file_is_open}
use Rattle.site_records.proofs.NoteLaws.{keeps_rules}
use Rattle.site_records.proofs.reading.RecordReading.add_robots.Goals as goal

pub returns-in_err-origin : goal.returns-in_err-origin
returns-in_err-origin c =
    let p = err_from_is_err_and c.from_residual.result c.from_residual.ensures.1 in
    rw (p.1, p.2) (refused_rules c.args.self.now (file c.args.text.now c.args.count) c.args.behind.now _ (λ h. h) (λ k. k) c.in_err-origin.ensures)

pub returns-in_default : goal.returns-in_default
returns-in_default c = without_bytes c.args.self.now (file c.args.text.now c.args.count) c.args.behind.now c.in_ok-origin.ensures.0 c.in_default.ensures

pub returns-in_err-hops : goal.returns-in_err-hops
returns-in_err-hops c =
    let p = err_from_is_err_and c.from_residual-in_err-hops.result c.from_residual-in_err-hops.ensures.1 in
    rw (p.1, p.2) tt

pub returns-in_err-keep_chain : goal.returns-in_err-keep_chain
returns-in_err-keep_chain c =
    let p = err_from_is_err_and c.from_residual-in_err-keep_chain.result c.from_residual-in_err-keep_chain.ensures.1 in
    rw (p.1, p.2) tt

pub returns : goal.returns
returns c =
    let h = c.in-Some.ensures in
    let a = c.in-Some.bytes-is in
    let b = c.in-Some.after-is in
    let has : HasBytes c.args.behind.now c.args.count c.in-Some.bytes.now c.in-Some.after.now = first_of (assumption h, search (rules, h), grind (arith, h, a, b)) in
    let (named, root, is, _) = c.in_ok-origin.ensures in
    let hops = c.in_ok-hops.hops in
    let same = c.in_ok-hops.ensures.lost ∙ sym (ap (λ (r : RuleSetValue). r.closed) c.in_ok-hops.ensures.rules ∙ file_is_open c.in-Some.bytes.now) in
    takes c.args.self.now c.keep_chain.new.self (file c.args.text.now c.args.count) c.args.behind.now _ (ruled hops.of (rules_of_hops hops.hops)) named root
    (file_states c.args.self.now.links c.args.text.now c.args.count c.args.behind.now c.in-Some.bytes.now c.in-Some.after.now c.in_ok-origin.origin hops.of _ has c.in_ok-hops.ensures.rules c.in_ok-hops.ensures.of is)
    (keeps_rules c.args.self.now c.keep_chain.new.self hops same c.in_ok-keep_chain.ensures) refl
