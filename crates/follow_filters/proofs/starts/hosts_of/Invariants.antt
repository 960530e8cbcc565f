-- The starts so far, by their hosts.
use Rattle.std.proofs.Common.{take}
use Rattle.follow_filters.specs.inner.Starts.{FindsHosts}
use Rattle.follow_filters.proofs.starts.hosts_of.Given as goal

abbrev pub invariant-loop-start : goal.invariant-loop-start
invariant-loop-start l = FindsHosts (take l.start-index l.list) l.hosts
