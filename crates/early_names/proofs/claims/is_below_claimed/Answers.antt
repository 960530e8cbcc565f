use Rattle.std.proofs.Common.{rules, ◌≡◌, false, sym, ap}
use Rattle.std.proofs.lemmas.Bool.{both_ways}
use Rattle.early_names.specs.Claims.{is_name}
use Rattle.early_names.specs.inner.Entries.{entry_of}
use Rattle.early_names.proofs.ClaimLaws.{left_next, left_last, left_marked, left_first, found_tells}
use Rattle.early_names.proofs.claims.is_below_claimed.Goals as goal

pub loop-directory-init : goal.loop-directory-init
loop-directory-init c = (search rules, left_first (λ q. is_name (entry_of c.args.entries.now q) ≡ false) c.args.name.now)

pub loop-directory-preserved : goal.loop-directory-preserved
loop-directory-preserved c =
    (search rules, left_next (λ q. is_name (entry_of c.args.entries.now q) ≡ false) c.args.name.now c.loop-directory.rest.now c.in-Some.directory.now c.loop-directory.invariant.1 c.in-Some.ensures (ap is_name (sym c.in_default-get.ensures.value)))

pub returns-in-Some-get : goal.returns-in-Some-get
returns-in-Some-get c =
    found_tells (entry_of c.args.entries.now) c.args.name.now c.loop-directory.rest.now c.in-Some.directory.now c.in-Some-get.is_name.now c.requires c.loop-directory.invariant.1 c.in-Some.ensures (sym c.in-Some-get.ensures.value)

pub returns : goal.returns
returns c = (
  λ e. cc,
  λ claimed.
      let free = left_last (λ q. is_name (entry_of c.args.entries.now q) ≡ false) c.args.name.now c.loop-directory.rest.now c.loop-directory.invariant.1 (λ q dir. absurd (c.in_default.ensures q dir)) claimed.0 claimed.1 in
      absurd (both_ways _ free claimed.2),
)
