use Rattle.std.proofs.Common.{length}
use denote.Text.{Utf8}
use denote.Shadow.{shadow}
use Rattle.early_names.specs.inner.Entries.{entry_of}
use Rattle.early_names.proofs.ClaimLaws.{IsMarking}
use Rattle.early_names.proofs.claims.mark_directories.Given as goal

abbrev pub invariant-loop-directory : goal.invariant-loop-directory
invariant-loop-directory l = shadow (Utf8 l.rest) × IsMarking (entry_of l.initial.entries) (entry_of l.entries) l.name l.rest

abbrev pub decreases-loop-directory : goal.decreases-loop-directory
decreases-loop-directory l = length l.rest
