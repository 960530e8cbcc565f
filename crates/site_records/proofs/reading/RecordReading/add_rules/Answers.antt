-- Everything is allowed there, or nothing.
use Rattle.std.proofs.Common.{◌∙◌, ap, sym, refl}
use Rattle.robots_rules.specs.Access.{RuleSetValue}
use Rattle.std.proofs.lemmas.Result.{err_from_is_err_and}
use Rattle.site_inputs.specs.declared.input_fault.InputLineFault.TheVariants.{Memory}
use Rattle.answer_notes.specs.HopChains.{rules_of_hops}
use Rattle.site_records.proofs.EntryLaws.{refused_bare, bare_states}
use Rattle.site_records.proofs.FirstVersionLaws.{bare_is_closed}
use Rattle.site_records.proofs.NoteLaws.{keeps_rules}
use Rattle.site_records.proofs.reading.RecordReading.add_rules.Goals as goal

pub returns-in_err-origin : goal.returns-in_err-origin
returns-in_err-origin c =
    let p = err_from_is_err_and c.from_residual.result c.from_residual.ensures.1 in
    rw (p.1, p.2) (refused_bare c.args.self.now c.args.allowed c.args.text.now c.args.behind.now _ c.in_err-origin.ensures)

pub returns-in_err-hops : goal.returns-in_err-hops
returns-in_err-hops c =
    let p = err_from_is_err_and c.from_residual-in_err-hops.result c.from_residual-in_err-hops.ensures.1 in
    rw (p.1, p.2) (refused_bare c.args.self.now c.args.allowed c.args.text.now c.args.behind.now Memory tt)

pub returns-in_err-keep_chain : goal.returns-in_err-keep_chain
returns-in_err-keep_chain c =
    let p = err_from_is_err_and c.from_residual-in_err-keep_chain.result c.from_residual-in_err-keep_chain.ensures.1 in
    rw (p.1, p.2) (refused_bare c.args.self.now c.args.allowed c.args.text.now c.args.behind.now Memory tt)

pub returns : goal.returns
returns c =
    let (named, root, is, _) = c.in_ok-origin.ensures in
    let hops = c.in_ok-hops.hops in
    let same = c.in_ok-hops.ensures.lost ∙ sym (ap (λ (r : RuleSetValue). r.closed) c.in_ok-hops.ensures.rules ∙ bare_is_closed c.args.allowed) in
    bare_states c.args.self.now c.keep_chain.new.self c.args.allowed c.args.text.now c.args.behind.now _ c.in_ok-origin.origin hops.of (rules_of_hops hops.hops) named root
    c.in_ok-hops.ensures.rules c.in_ok-hops.ensures.of is refl refl (keeps_rules c.args.self.now c.keep_chain.new.self hops same c.in_ok-keep_chain.ensures)
