-- The first place's set is that of the place after it, by its byte.
use Rattle.std.proofs.Common.{◌≤◌, ◌∙◌, length, vec_len, refl, sym, ap, subst}
use Rattle.expressions.specs.inner.Accepting.{AreFlags}
use Rattle.expressions.specs.inner.Tables.{set_at}
use Rattle.expressions.proofs.Tables.{marks_here}
use Rattle.expressions.proofs.table.finds_by.Goals as goal

pub mark-requires-clause-room : goal.mark-requires-clause-room
mark-requires-clause-room c =
    subst (λ s. vec_len c.args.nfa.now.states ≤ length s) (sym (c.set_of.ensures ∙ ap (λ s. set_at s c.in-Some.number) c.deref.ensures.value)) (c.requires.table.sets c.in-Some.number c.in-Some.ensures.0)

pub begins-requires-clause-flags : goal.begins-requires-clause-flags
begins-requires-clause-flags c =
    marks_here c.args.nfa.now c.args.text.now 0 1 c.set_of.result.now c.mark.new.here refl c.mark.ensures.flags
    (λ inside. subst (λ s. AreFlags c.args.nfa.now c.args.text.now 1 s) (sym (c.set_of.ensures ∙ ap (λ s. set_at s c.in-Some.number) c.deref.ensures.value)) c.in-Some.ensures.1)
