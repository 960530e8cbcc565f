-- The hops so far come before the rest, each where the chain leads.
use Rattle.std.proofs.Common.{◌≡◌, ◌≤◌, ◌-◌, length}
use Rattle.site_records.specs.Entries.{IsBegun, chain_start, due}
use Rattle.site_records.proofs.hop_row.read_row.Given as goal

abbrev pub invariant-hops : goal.invariant-hops
invariant-hops l = record {
  begun : IsBegun l.of l.text l.hops.items l.rest;
  next : l.next ≡ due (chain_start l.of) l.hops.items;
  few : length l.hops.items ≤ l.count;
}

abbrev pub decreases-hops : goal.decreases-hops
decreases-hops l = l.count - length l.hops.items
