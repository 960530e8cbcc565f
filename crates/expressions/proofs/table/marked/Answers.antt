-- The list holds what was marked.
use Rattle.std.proofs.Common.{◌≡◌, ◌≤◌, ◌++◌, length, vec_len, drop, take, sym, subst, arith}
use Rattle.std.proofs.lemmas.List.{take_at}
use Rattle.expressions.specs.inner.Accepting.{AreMarks}
use Rattle.expressions.proofs.table.marked.Goals as goal

pub returns : goal.returns
returns c =
    let here = c.in_ok-here.here in
    let marks = c.mark.new.here in
    let long : length marks ≡ here.len = omega (arith, c.mark.ensures.room, c.deref_mut.ensures.len) in
    let same : take here.len (marks ++ drop (length marks) here.items) ≡ marks = take_at marks (drop (length marks) here.items) here.len long in
    let room : vec_len c.args.nfa.now.states ≤ length marks = omega (arith, long, c.in_ok-here.ensures.len) in (
      subst (λ s. vec_len c.args.nfa.now.states ≤ length s) (sym same) room,
      subst (λ s. AreMarks c.args.nfa.now c.args.text.now c.args.at c.args.next.now s) (sym same) c.mark.ensures.flags,
    )
