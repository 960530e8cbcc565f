-- The fetcher was asked once and so often again, and its site is what it was.
use Rattle.std.proofs.Common.{◌≡◌}
use Rattle.fetcher.specs.declared.fetcher.Ask.TheVariants as ask
use Rattle.answer_notes.specs.Received.{received_outcome, received_body}
use Rattle.http_fetcher.specs.Meanings.{MayAnswer}
use Rattle.pacing.specs.Retries.{retries_by}
use Rattle.retries.specs.Keeping.{asks_of, lost_of}
use Rattle.retries.specs.Tries.{TriesSoFar}
use Rattle.retries.specs.Worth.{is_worth}
use Rattle.retries.proofs.retrying.receive.Given as goal

abbrev pub invariant-loop-made : goal.invariant-loop-made
invariant-loop-made g l = record {
  site : l.inner.links ≡ l.fn.inner.links;
  links : l.inner.links ≡ l.fn.inner.links;
  told : MayAnswer l.fn.inner.links l.at (received_outcome l.fn.inner.links l.at l.received) (received_body l.received);
  tries : TriesSoFar asks_of (lost_of g.C.CallingConnect.lost) (λ f t. MayAnswer f.links l.at (received_outcome f.links l.at t) (received_body t)) (is_worth (retries_by l.retries)) (ask.Page l.at) l.made l.fn.inner l.inner l.received;
}
