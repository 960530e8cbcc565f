use Rattle.early_names.specs.inner.Entries.{entry_of}
use Rattle.early_names.proofs.ClaimLaws.{added_from}
use Rattle.early_names.proofs.claims.add.Goals as goal

pub returns-clause-added : goal.returns-clause-added
returns-clause-added c =
    added_from (entry_of c.args.entries.now) (entry_of c.mark_directories.new.entries) (entry_of c.set.new.entries) c.args.name.now c.in_ok-mark_directories.ensures.some c.in_ok-mark_directories.ensures.all c.in_ok-set.ensures.set
