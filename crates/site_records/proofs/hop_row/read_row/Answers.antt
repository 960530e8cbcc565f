-- Each hop makes the row longer by one.
use Rattle.std.proofs.Common.{◌≡◌, ◌∙◌, [], ◌∷◌, Some, length, length-append, sym, ap, subst, arith, rules}
use Rattle.site_records.specs.Entries.{no_hops, IsBegun, IsHop, chain_start, due}
use Rattle.site_records.proofs.ChainLaws.{row_grows, due_behind}
use Rattle.site_records.proofs.hop_row.read_row.Goals as goal

pub hops-init : goal.hops-init
hops-init c =
    let empty = c.new-hops.ensures.items in
    let none = ap length empty in
    record {
      begun = subst (λ l. IsBegun c.args.of.now c.args.text.now l c.args.text.now) (sym empty) (record { are = no_hops; led = tt });
      next = ap Some c.in_ok-robots_file.ensures ∙ sym (ap (due (chain_start c.args.of.now)) empty);
      few = omega (arith, none);
    }

pub hops-preserved : goal.hops-preserved
hops-preserved c =
    let pushed = c.in_ok-push-in-Ok.ensures.items in
    let h = c.in-Ok.ensures in
    let a = c.in-Ok.at-is in
    let b = c.in-Ok.received-is in
    let d = c.in-Ok.after-is in
    let is : IsHop c.hops.rest.now (c.in-Ok.at, c.in-Ok.received) c.in-Ok.after.now × (c.hops.next ≡ Some c.in-Ok.at) = first_of (assumption h, search (rules, h), grind (arith, h, a, b, d)) in
    let long = ap length pushed in
    let more = length-append c.hops.hops.items ((c.in-Ok.at, c.in-Ok.received) ∷ []) in
    let less = c.hops-test.true in
    let len = c.len.ensures in
    record {
      begun = subst (λ l. IsBegun c.args.of.now c.args.text.now l c.in-Ok.after.now) (sym pushed)
          (row_grows c.args.of.now c.args.text.now c.hops.hops.items c.hops.rest.now (c.in-Ok.at, c.in-Ok.received) c.in-Ok.after.now c.hops.invariant.begun is.0 (sym c.hops.invariant.next ∙ is.1));
      next = c.in_ok-next-in-Ok.ensures ∙ sym (ap (due (chain_start c.args.of.now)) pushed ∙ due_behind (chain_start c.args.of.now) c.hops.hops.items (c.in-Ok.at, c.in-Ok.received));
      few = omega (arith, long, more, less, len);
    }
