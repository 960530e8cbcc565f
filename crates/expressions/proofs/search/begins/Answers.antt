-- The flag of the first state decides.
use Rattle.expressions.proofs.Accepting.{begins-here}
use Rattle.expressions.proofs.search.begins.Goals as goal

pub returns : goal.returns
returns c =
    let nfa = c.args.nfa.now in
    begins-here nfa c.args.text.now c.args.at _ c.requires.place (c.requires.flags nfa.start nfa.start_in) c.requires.later
