use Rattle.std.proofs.Common.{◌≡◌, ◌∙◌, Some, None, ap, refl, sym}
use Rattle.std.proofs.lemmas.Bool.{false≢true}
use Rattle.frontier_core.specs.declared.event.Cause.{Cause}
use Rattle.frontier_core.specs.declared.event.Cause.TheVariants as why
use Rattle.workers.proofs.ConclusionLaws.{not_full}
use Rattle.workers.proofs.QuotaLaws.{memory_not_quota, quota_not_full, quota_not_mismatch}
use Rattle.workers.proofs.StopLaws.{ok_not_err, err_same, memory_not_full, memory_not_mismatch}
use Rattle.workers.proofs.conclusion.end_of.Goals as goal

pub returns-then-is_quiet : goal.returns-then-is_quiet
returns-then-is_quiet c =
    let quiet = c.if-is_quiet.ensures.quiet.0 refl in
    record {
      quiet = (quiet, c.if-is_quiet.ensures.complete refl);
      stopped = tt;
      full = λ is. absurd (ok_not_err _ _ is);
      memory = ((λ is. absurd (ok_not_err _ _ is)), λ is. (let other : None ≡ Some why.Memory = sym quiet.running ∙ is in cc));
      mismatch = ((λ is. absurd (ok_not_err _ _ is)), λ unexplained. absurd (unexplained.unquiet quiet));
    }

pub returns-in-Some-Memory : goal.returns-in-Some-Memory
returns-in-Some-Memory c =
    let is : c.args.frontier.now.state.cause ≡ Some why.Memory = sym c.cause.ensures ∙ (c.in-Some-Memory.is ∙ ap (λ (cause : Cause). Some cause) c.in-Some-Memory.field-0-is) in
    record {
      quiet = tt;
      stopped = λ _. is;
      full = λ full. absurd (memory_not_full (err_same _ _ _ refl full));
      memory = ((λ _. is), λ _. refl);
      mismatch = ((λ other. absurd (memory_not_mismatch (err_same _ _ _ refl other))), λ unexplained. absurd (unexplained.supplied is));
    }

pub returns-in-Some-Quota : goal.returns-in-Some-Quota
returns-in-Some-Quota c =
    let is : c.args.frontier.now.state.cause ≡ Some why.Quota = sym c.cause.ensures ∙ (c.in-Some-Quota.is ∙ ap (λ (cause : Cause). Some cause) c.in-Some-Quota.field-0-is) in
    record {
      quiet = tt;
      stopped = λ _. is;
      full = λ full. absurd (quota_not_full (err_same _ _ _ refl full));
      memory = ((λ memory. absurd (memory_not_quota (sym (err_same _ _ _ refl memory)))), λ memory. (let other : Some why.Quota ≡ Some why.Memory = sym is ∙ memory in cc));
      mismatch = ((λ other. absurd (quota_not_mismatch (err_same _ _ _ refl other))), λ unexplained. absurd (unexplained.unspent is));
    }

pub returns-in-Some-Mismatch : goal.returns-in-Some-Mismatch
returns-in-Some-Mismatch c =
    let is : c.args.frontier.now.state.cause ≡ Some why.Mismatch = sym c.cause.ensures ∙ (c.in-Some-Mismatch.is ∙ ap (λ (cause : Cause). Some cause) c.in-Some-Mismatch.field-0-is) in
    record {
      quiet = tt;
      stopped = λ other. absurd (other refl);
      full = λ full. absurd (not_full _ refl (err_same _ _ _ refl full));
      memory = ((λ memory. absurd (memory_not_mismatch (sym (err_same _ _ _ refl memory)))), λ memory. (let other : Some why.Mismatch ≡ Some why.Memory = sym is ∙ memory in cc));
      mismatch = (
        (λ _. record {
          unquiet = λ quiet. false≢true (c.if-is_quiet.ensures.quiet.1 quiet);
          supplied = λ memory. (let other : Some why.Mismatch ≡ Some why.Memory = sym is ∙ memory in cc);
          unborne = λ full. (let other : Some why.Mismatch ≡ Some why.Full = sym is ∙ full in cc);
          unspent = λ spent. (let other : Some why.Mismatch ≡ Some why.Quota = sym is ∙ spent in cc);
        }),
        λ _. refl,
      );
    }

pub returns-in-None : goal.returns-in-None
returns-in-None c =
    let is : c.args.frontier.now.state.cause ≡ None = sym c.cause.ensures ∙ c.in-None.is in
    record {
      quiet = tt;
      stopped = λ other. absurd (other refl);
      full = λ full. absurd (not_full _ refl (err_same _ _ _ refl full));
      memory = ((λ memory. absurd (memory_not_mismatch (sym (err_same _ _ _ refl memory)))), λ memory. (let other : None ≡ Some why.Memory = sym is ∙ memory in cc));
      mismatch = (
        (λ _. record {
          unquiet = λ quiet. false≢true (c.if-is_quiet.ensures.quiet.1 quiet);
          supplied = λ memory. (let other : None ≡ Some why.Memory = sym is ∙ memory in cc);
          unborne = λ full. (let other : None ≡ Some why.Full = sym is ∙ full in cc);
          unspent = λ spent. (let other : None ≡ Some why.Quota = sym is ∙ spent in cc);
        }),
        λ _. refl,
      );
    }
