-- The fetcher was asked once and so often again, and its site is what it was.
use Rattle.std.proofs.Common.{◌≡◌}
use Rattle.fetcher.specs.declared.fetcher.Ask.TheVariants as ask
use Rattle.answer_notes.specs.HopChains.{rules_of_hops}
use Rattle.http_fetcher.specs.Meanings.{MayRule}
use Rattle.pacing.specs.Retries.{retries_by}
use Rattle.retries.specs.Keeping.{asks_of, lost_of}
use Rattle.retries.specs.Tries.{TriesSoFar}
use Rattle.retries.specs.Worth.{is_worth_hops}
use Rattle.retries.proofs.retrying.receive_hops.Given as goal

abbrev pub invariant-loop-made : goal.invariant-loop-made
invariant-loop-made g l = record {
  site : l.inner.links ≡ l.fn.inner.links;
  links : l.inner.links ≡ l.fn.inner.links;
  of : l.hops.of ≡ l.of;
  told : MayRule l.fn.inner.links l.of (rules_of_hops l.hops.hops);
  tries : TriesSoFar asks_of (lost_of g.C.CallingConnect.lost) (λ f found. MayRule f.links l.of (rules_of_hops found.hops)) (λ found. is_worth_hops (retries_by l.retries) found.hops) (ask.Rules l.of) l.made l.fn.inner l.inner l.hops;
}
