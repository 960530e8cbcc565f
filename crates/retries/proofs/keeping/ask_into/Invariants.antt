-- The fetcher was asked once and so often again.
use Rattle.std.proofs.Common.{◌≡◌}
use Rattle.fetcher.specs.declared.fetcher.Ask.TheVariants as ask
use Rattle.pacing.specs.Retries.{retries_by}
use Rattle.response_reader.specs.Limits.{limited}
use Rattle.retries.specs.Keeping.{MayKeep, asks_of, is_worth_answer, lost_of}
use Rattle.retries.specs.Tries.{TriesSoFar}
use Rattle.retries.proofs.keeping.ask_into.Given as goal

abbrev pub invariant-loop-made : goal.invariant-loop-made
invariant-loop-made g l = record {
  links : l.inner.links ≡ l.fn.inner.links;
  sends : l.inner.sends ≡ l.fn.inner.sends;
  told : MayKeep g.K.Keeper.holds (limited l.limits) l.at l.fn.inner l.answer;
  tries : TriesSoFar asks_of (lost_of g.C.CallingConnect.lost) (MayKeep g.K.Keeper.holds (limited l.limits) l.at) (is_worth_answer (retries_by l.retries)) (ask.Page l.at) l.made l.fn.inner l.inner l.answer;
}
