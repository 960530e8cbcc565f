use Rattle.std.proofs.Common.{sym, refl, ap, ◌∙◌}
use Rattle.std.proofs.lemmas.Bool.{both_ways}
use Rattle.early_names.proofs.ClaimLaws.{clear_seen, unmarked_seen, added_seen, marked_seen}
use Rattle.early_names.proofs.claims.Claims.claim.Goals.{then-self-via-then-self, then-self-via-else-self+then-not-is_clear}
use Rattle.early_names.proofs.claims.Claims.claim.Goals as goal

pub returns-then-self-clause-exact : goal.returns-then-self-clause-exact
returns-then-self-clause-exact c usable = (
  λ e. cc,
  λ clear. elim c.then-self.branch [
    | then-self-via-then-self w ↦ absurd (both_ways c.self.inside.is_closed (ap (λ x. x.is_closed) c.self.view_is ∙ usable) w.if-self.true)
    | then-self-via-else-self+then-not-is_clear w ↦ (
        let free = unmarked_seen c.args.self.now c.self.inside.entries c.self.inside.is_closed (sym c.self.view_is) c.args.name.now c.self.invariant usable clear in
        absurd (both_ways w.is_clear.result w.if-not-is_clear.true (w.is_clear.ensures.1 free)))
  ],
)

pub returns-in-Ok-clause-clear : goal.returns-in-Ok-clause-clear
returns-in-Ok-clause-clear c e =
    clear_seen c.args.self.now c.self.inside.entries c.self.inside.is_closed (sym c.self.view_is) c.args.name.now c.self.invariant (c.is_clear.ensures.0 c.if-not-is_clear.false)

pub returns-in-Ok-clause-exact : goal.returns-in-Ok-clause-exact
returns-in-Ok-clause-exact c usable = (returns-in-Ok-clause-clear c, λ clear. refl)

pub returns-in-Ok-clause-claimed : goal.returns-in-Ok-clause-claimed
returns-in-Ok-clause-claimed c =
    added_seen c.args.self.now c.self.inside.entries c.self.inside.is_closed (sym c.self.view_is) c.add.new.entries c.args.name.now (c.is_clear.ensures.0 c.if-not-is_clear.false) c.in-Ok.ensures.added

pub returns-in-Err-clause-err : goal.returns-in-Err-clause-err
returns-in-Err-clause-err c =
    marked_seen c.args.self.now c.self.inside.entries c.self.inside.is_closed (sym c.self.view_is) c.add.new.entries c.args.name.now (c.is_clear.ensures.0 c.if-not-is_clear.false) c.in-Err.ensures.err
