-- The starts so far.
use Rattle.std.proofs.Common.{◌≡◌, map, take}
use Rattle.options.specs.Written.{starts_in}
use Rattle.options.specs.inner.Said.{saying_in}
use Rattle.options.proofs.written.starts.Given as goal

abbrev pub invariant-loop-saying : goal.invariant-loop-saying
invariant-loop-saying l = map (λ word. word.now) l.starts.items ≡ starts_in (map saying_in (take l.saying-index l.said))
