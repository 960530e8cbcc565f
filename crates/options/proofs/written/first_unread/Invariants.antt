-- There is none so far.
use Rattle.std.proofs.Common.{◌≡◌, drop, map}
use Rattle.options.specs.Written.{first_unread}
use Rattle.options.specs.inner.Said.{saying_in}
use Rattle.options.proofs.written.first_unread.Given as goal

abbrev pub invariant-loop-saying : goal.invariant-loop-saying
invariant-loop-saying l = first_unread (map saying_in l.said) ≡ first_unread (map saying_in (drop l.saying-index l.said))
