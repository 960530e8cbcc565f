-- One fetcher makes a crew of one.
use Rattle.std.proofs.Common.{◌≡◌, ◌≢◌, ℕ, ◌∙◌, subst, sym}
use Rattle.std.specs.Prelude.{IfOk, IfErr}
use Rattle.frontier_core.specs.declared.event.Cause.TheVariants as why
use Rattle.workers.specs.OneWorker.{AreByCrew}
use Rattle.workers.proofs.crew_retrieval.retrieve_with.Goals as goal

pub returns-then-len-eq1 : goal.returns-then-len-eq1
returns-then-len-eq1 g c =
    let alone = c.retrieve_alone.ensures in
    let one : 1 ≡ c.args.fetchers.len = sym c.if-len-eq1.true ∙ c.len.ensures in
    record {
      ok = alone.ok;
      err = alone.err;
      quota = alone.quota;
      one = λ _. alone.mismatch;
      numbered = (
        subst (λ (n : ℕ). IfOk c.retrieve_alone.result.0 (λ h. AreByCrew n h.trace)) one alone.numbered.0,
        subst (λ (n : ℕ). IfErr c.retrieve_alone.result.0 (λ halt. halt.cause ≢ why.Mismatch → AreByCrew n halt.harvest.trace)) one alone.numbered.1,
      );
      own = alone.own;
    }

pub returns : goal.returns
returns g c =
    let together = c.retrieve_together.ensures in
    record {
      ok = together.ok;
      err = together.err;
      quota = together.quota;
      one = λ one. absurd (c.if-len-eq1.false (c.len.ensures ∙ one));
      numbered = together.numbered;
      own = together.own;
    }
