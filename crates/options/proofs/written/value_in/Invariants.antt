-- The value so far, and what is left.
use Rattle.std.proofs.Common.{◌≡◌, None, drop, map, option_map, string_bytes}
use Rattle.options.specs.Written.{value_from}
use Rattle.options.specs.inner.Said.{saying_in}
use Rattle.options.proofs.written.value_in.Given as goal

abbrev pub invariant-loop-saying : goal.invariant-loop-saying
invariant-loop-saying l =
    value_from l.name l.adds (option_map string_bytes l.value) (map saying_in (drop l.saying-index l.said)) ≡ value_from l.name l.adds None (map saying_in l.said)
