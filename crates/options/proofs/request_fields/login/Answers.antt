-- The words say which user and which password, and that both are sent.
use Rattle.std.proofs.Common.{◌≡◌, ◌⊎◌, Option, option_map, subst}
use Rattle.std.specs.Prelude.{Err, MatchResult, Ok, Result}
use Rattle.clap.specs.Walk.{Text}
use Rattle.clap.specs.Words.{found_of, rows_of}
use Rattle.options.specs.declared.fault.LineFault.{LineFault}
use Rattle.options.specs.declared.fault.LineFault.TheVariants as fault
use Rattle.options.proofs.ReadLemmas.{login-is}
use Rattle.options.proofs.request_fields.login.Goals as goal

pub returns-clause-answers : goal.returns-clause-answers
returns-clause-answers c =
    subst (λ (x : Result (Option Text) LineFault). MatchResult c.login_by.result (λ login. x ≡ Ok login) (λ f. (x ≡ Err f) ⊎ (f ≡ fault.Memory)))
    (login-is (rows_of (found_of c.args.matches.now)) c.is_set.result (option_map (λ s. s.now) c.user.result) (option_map (λ s. s.now) c.password.result)
    c.is_set.ensures c.user.ensures c.password.ensures)
    c.login_by.ensures.answers
