-- What is kept of both values may be sent.
use Rattle.std.proofs.Common.{◌≡◌, Option, subst, sym, true, option_map}
use Rattle.std.specs.Option.{option_map_or}
use Rattle.requests.specs.Conditions.{is_sendable}
use Rattle.requests.specs.Lines.{Text}
use Rattle.requests.proofs.ConditionLemmas.{kept_sendable}
use Rattle.requests.proofs.condition.Condition.of.Goals as goal

pub invariant_of-result : goal.invariant_of-result
invariant_of-result c =
    let may : Option Text → Type 0 = λ value. option_map_or is_sendable value true ≡ true in
    record {
      tag = subst may (sym c.in_ok-tag.ensures) (kept_sendable (option_map (λ v. v.now) c.args.etag));
      since = subst may (sym c.in_ok-since.ensures) (kept_sendable (option_map (λ v. v.now) c.args.modified));
    }
