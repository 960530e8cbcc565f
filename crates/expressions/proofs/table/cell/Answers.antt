-- What was marked has its number, and a flag for each state.
use Rattle.std.proofs.Common.{◌≤◌, ◌∙◌, length, vec_len, sym, ap, subst, arith}
use Rattle.std.proofs.lemmas.Option.{IfSome_then}
use Rattle.std.proofs.lemmas.Result.{IfOk-weaker}
use Rattle.expressions.specs.inner.Tables.{set_at}
use Rattle.expressions.proofs.Tables.{cell_is, sets_more}
use Rattle.expressions.proofs.table.cell.Goals as goal

pub marked-requires-clause-room : goal.marked-requires-clause-room
marked-requires-clause-room c =
    subst (λ s. vec_len c.args.nfa.now.states ≤ length s) (sym (c.set_of.ensures ∙ ap (λ s. set_at s c.args.from) c.deref.ensures.value))
    (c.requires.sets c.args.from (omega (arith, c.requires.from, c.args.sets.now.ok)))

pub returns-clause-cell : goal.returns-clause-cell
returns-clause-cell c =
    IfOk-weaker c.numbered.result _ _
    (λ number says. IfSome_then number says
    (λ n its. cell_is c.args.nfa.now c.args.sets.now.items c.numbered.new.sets.items c.args.from c.args.byte n c.set_of.result.now c.in_ok-set.set.items c.numbered.ensures.more
    (omega (arith, c.requires.from, c.args.sets.now.ok)) (sym (c.set_of.ensures ∙ ap (λ s. set_at s c.args.from) c.deref.ensures.value)) c.in_ok-set.ensures.1 (omega (arith, its.0, c.numbered.new.sets.ok)) its.1))
    c.numbered.ensures.number

pub returns-clause-sets : goal.returns-clause-sets
returns-clause-sets c =
    sets_more c.args.nfa.now c.args.sets.now.items c.numbered.new.sets.items c.in_ok-set.set.items c.numbered.ensures.more c.requires.sets c.in_ok-set.ensures.0
    (λ n past inside. c.numbered.ensures.added n (omega (arith, past, c.args.sets.now.ok)) (omega (arith, inside, c.numbered.new.sets.ok)))
