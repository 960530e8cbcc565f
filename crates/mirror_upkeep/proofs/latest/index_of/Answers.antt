-- One more entry is taken, or another of its address was.
use Rattle.std.proofs.Common.{◌≡◌, ◌∙◌, ◌&&◌, Bool, true, false, Some, sym, ap, subst, arith}
use Rattle.address.specs.Address.{AddressText}
use Rattle.mirror_upkeep.specs.inner.Taking.{Taking}
use Rattle.mirror_upkeep.proofs.LatestLaws.{none_left}
use Rattle.mirror_upkeep.proofs.TakingLaws.{gone_on, made_all, made_index, passed_on}
use Rattle.mirror_upkeep.proofs.latest.index_of.Goals as goal

pub entries-preserved-then-is_of : goal.entries-preserved-then-is_of
entries-preserved-then-is_of c =
    passed_on c.sort_falling.new.entries.items c.entries.left.items c.pop.new.self.items c.entries.index c.entries.is_whole c.entries.last c.in-Some.entry c.entries.invariant c.in-Some.ensures.items (c.is_of.ensures.0 c.if-is_of.true)

pub entries-preserved-then-is_whole : goal.entries-preserved-then-is_whole
entries-preserved-then-is_whole c =
    let now : c.in_ok-added.added ≡ (c.entries.is_whole && c.in_ok-added.added) = ap (λ (b : Bool). b && c.in_ok-added.added) (sym c.if-is_whole.true) in
    subst (λ (at : AddressText). Taking c.sort_falling.new.entries.items c.pop.new.self.items c.add.new.self c.in_ok-added.added (Some at)) (sym (c.in_ok-try_clone.ensures ∙ c.address.ensures))
    (gone_on c.sort_falling.new.entries.items c.entries.left.items c.pop.new.self.items c.entries.index c.add.new.self c.entries.is_whole c.in_ok-added.added c.in_ok-added.added c.entries.last c.in-Some.entry
    c.in_ok-sort_falling.ensures.falling c.entries.invariant c.in-Some.ensures.items (λ same. let yes : c.is_of.result ≡ true = c.is_of.ensures.1 same in let no : c.is_of.result ≡ false = c.if-is_of.false in cc) c.in_ok-added.ensures.added now)

pub entries-preserved : goal.entries-preserved
entries-preserved c =
    let now : c.entries.is_whole ≡ (c.entries.is_whole && c.in_ok-added.added) = c.if-is_whole.false ∙ ap (λ (b : Bool). b && c.in_ok-added.added) (sym c.if-is_whole.false) in
    subst (λ (at : AddressText). Taking c.sort_falling.new.entries.items c.pop.new.self.items c.add.new.self c.entries.is_whole (Some at)) (sym (c.in_ok-try_clone.ensures ∙ c.address.ensures))
    (gone_on c.sort_falling.new.entries.items c.entries.left.items c.pop.new.self.items c.entries.index c.add.new.self c.entries.is_whole c.in_ok-added.added c.entries.is_whole c.entries.last c.in-Some.entry
    c.in_ok-sort_falling.ensures.falling c.entries.invariant c.in-Some.ensures.items (λ same. let yes : c.is_of.result ≡ true = c.is_of.ensures.1 same in let no : c.is_of.result ≡ false = c.if-is_of.false in cc) c.in_ok-added.ensures.added now)

pub returns-clause-index : goal.returns-clause-index
returns-clause-index c =
    made_index c.args.entries.items c.sort_falling.new.entries.items c.entries.left.items c.entries.index c.entries.is_whole c.entries.last c.sort_falling.ensures.same c.sort_falling.ensures.latest
    (none_left c.entries.left.items (omega (arith, c.in_default.ensures.cases.0))) c.entries.invariant

pub returns-clause-all : goal.returns-clause-all
returns-clause-all c =
    made_all c.args.entries.items c.sort_falling.new.entries.items c.entries.left.items c.entries.index c.entries.is_whole c.entries.last c.sort_falling.ensures.same
    (none_left c.entries.left.items (omega (arith, c.in_default.ensures.cases.0))) c.entries.invariant
