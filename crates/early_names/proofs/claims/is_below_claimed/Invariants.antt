use Rattle.std.proofs.Common.{◌≡◌, length, false}
use denote.Text.{Utf8}
use denote.Shadow.{shadow}
use Rattle.early_names.specs.Claims.{is_name}
use Rattle.early_names.specs.inner.Entries.{entry_of}
use Rattle.early_names.proofs.ClaimLaws.{IsLeft}
use Rattle.early_names.proofs.claims.is_below_claimed.Given as goal

abbrev pub invariant-loop-directory : goal.invariant-loop-directory
invariant-loop-directory l = shadow (Utf8 l.rest) × IsLeft (λ q. is_name (entry_of l.entries q) ≡ false) l.name l.rest

abbrev pub decreases-loop-directory : goal.decreases-loop-directory
decreases-loop-directory l = length l.rest
