use Rattle.std.proofs.Common.{Some, ap, ◌∙◌, cond, bytes_eq}
use Rattle.early_names.specs.inner.Entries.{entry_of}
use Rattle.early_names.proofs.ClaimLaws.{updated}
use Rattle.early_names.proofs.claims.set.Goals as goal

pub returns-clause-set : goal.returns-clause-set
returns-clause-set c =
    λ q. updated c.in_ok-key.key c.args.entries.now c.insert.new.self (Some c.args.is_name) c.in_ok-insert.ensures.updates q
    ∙ ap (λ bs. cond (bytes_eq bs q) (Some c.args.is_name) (entry_of c.args.entries.now q)) c.in_ok-key.ensures.ok
