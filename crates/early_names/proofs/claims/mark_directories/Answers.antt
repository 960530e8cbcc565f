use Rattle.std.proofs.Common.{rules, ◌≡◌, Some, false}
use Rattle.early_names.specs.inner.Entries.{entry_of}
use Rattle.early_names.proofs.ClaimLaws.{left_last, marking_first, marking_next, marking_met}
use Rattle.early_names.proofs.claims.mark_directories.Goals as goal

pub loop-directory-init : goal.loop-directory-init
loop-directory-init c = (search rules, marking_first (entry_of c.args.entries.now) c.args.name.now)

pub loop-directory-preserved : goal.loop-directory-preserved
loop-directory-preserved c = (
  search rules,
  marking_next (entry_of c.args.entries.now) (entry_of c.loop-directory.entries) (entry_of c.set.new.entries) c.args.name.now c.loop-directory.rest.now c.in-Some.directory.now c.loop-directory.invariant.1 c.in-Some.ensures c.in_ok-set.ensures.set,
)

pub returns-then-is_marked-clause-all : goal.returns-then-is_marked-clause-all
returns-then-is_marked-clause-all c =
    marking_met (entry_of c.args.entries.now) (entry_of c.loop-directory.entries) c.args.name.now c.loop-directory.rest.now c.in-Some.directory.now c.requires c.loop-directory.invariant.1 c.in-Some.ensures (c.is_marked.ensures.0 c.if-is_marked.true)

pub returns-clause-all : goal.returns-clause-all
returns-clause-all c =
    left_last (λ q. entry_of c.loop-directory.entries q ≡ Some false) c.args.name.now c.loop-directory.rest.now c.loop-directory.invariant.1.left (λ q dir. absurd (c.in_default.ensures q dir))
