use Rattle.std.proofs.Common.{map, sym, subst}
use Rattle.std.specs.List.Sorted.{IsSorted}
use Rattle.std.specs.String.{string_bytes}
use Rattle.local_names.specs.Endings.{stem_of}
use Rattle.local_names.specs.inner.Taken.{lent_text, text_cmp, HasSameNames, AreLeast}
use Rattle.local_names.proofs.naming.assign.Goals as goal

pub assign_each-requires-clause-sorted : goal.assign_each-requires-clause-sorted
assign_each-requires-clause-sorted c = subst (IsSorted text_cmp) (sym c.deref.ensures.value) c.in_ok-sorted.ensures.sorted

pub assign_each-requires-clause-same : goal.assign_each-requires-clause-same
assign_each-requires-clause-same c =
    subst (λ xs. HasSameNames (map string_bytes c.args.plain.now) (map lent_text xs)) (sym c.deref.ensures.value) c.in_ok-sorted.ensures.same

pub assign_each-requires-clause-least : goal.assign_each-requires-clause-least
assign_each-requires-clause-least c =
    subst (λ xs. AreLeast (map (stem_of c.args.has_endings) (map string_bytes c.args.plain.now)) (map lent_text xs)) (sym c.deref-2.ensures.value) c.in_ok-least.ensures
