use Rattle.std.proofs.Common.{◌≡◌, ◌-◌, List, ℕ, [], false, length, get_or, sym, ap, ◌∙◌, subst, arith}
use Rattle.std.proofs.lemmas.List.{get_or_default}
use Rattle.std.specs.Cmp.Lexicographic.{slice_cmp}
use Rattle.std.specs.Ordering.{nat_cmp, is_lt}
use denote.Ref.{Bor}
use Rattle.local_names.proofs.LeastLaws.{itself_not_less, reverse_not_less}
use Rattle.local_names.proofs.naming.least_with.Goals as goal

pub returns-then-is_empty-clause-own : goal.returns-then-is_empty-clause-own
returns-then-is_empty-clause-own c = itself_not_less c.args.name.now

pub returns-then-is_lt-clause-own : goal.returns-then-is_lt-clause-own
returns-then-is_lt-clause-own c =
    let d : Bor (List ℕ) = record { ref_ptr = (0, 0); now = [] } in
    reverse_not_less (get_or c.args.least.now (length c.args.least.now - 1) d).now c.args.name.now (ap is_lt (sym c.cmp.ensures) ∙ sym c.is_lt.ensures ∙ c.if-is_lt.true)

pub returns-then-is_lt-clause-others : goal.returns-then-is_lt-clause-others
returns-then-is_lt-clause-others c =
    λ some d.
    let i = length c.args.least.now - 1 in
    let none : Bor (List ℕ) = record { ref_ptr = (0, 0); now = [] } in
    let old = get_or c.args.least.now i d in
    subst (λ (x : Bor (List ℕ)). is_lt (slice_cmp nat_cmp old.now x.now) ≡ false) (get_or_default c.args.least.now i d none (omega (arith, some))) (itself_not_less old.now)

pub returns-else-is_lt-clause-own : goal.returns-else-is_lt-clause-own
returns-else-is_lt-clause-own c = itself_not_less c.args.name.now
