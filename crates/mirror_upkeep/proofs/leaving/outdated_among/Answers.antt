-- The copies of one more entry, before those of the rest.
use Rattle.std.proofs.Common.{◌∙◌, ◌++◌, map, sym, ap, string_bytes}
use Rattle.std.specs.List.{filter}
use Rattle.mirror_index.specs.Entries.{Text}
use Rattle.mirror_upkeep.specs.Leaving.{is_renewed, originals, originals_of}
use Rattle.mirror_upkeep.specs.Names.{has_name}
use Rattle.mirror_upkeep.specs.inner.Lent.{lent_text}
use Rattle.mirror_upkeep.proofs.LeavingLaws.{one_more_copied}
use Rattle.mirror_upkeep.proofs.leaving.outdated_among.Goals as goal

pub entries-preserved-in_ok-push_originals : goal.entries-preserved-in_ok-push_originals
entries-preserved-in_ok-push_originals c =
    let goes = (is_renewed (map lent_text c.args.renewed.now)) in
    one_more_copied c.args.backs_up (map lent_text c.args.names.now) goes c.in-Some.entry.now c.in-Some.later.now c.entries.rest.now
    (map string_bytes c.entries.leaving.items) (map string_bytes c.push_originals.new.leaving.items) (originals c.args.backs_up (map lent_text c.args.names.now) (filter goes c.args.earlier.now))
    c.in-Some.ensures.cases.0 (ap (λ (name : Text). has_name (map lent_text c.args.renewed.now) name) (sym (c.as_bytes.ensures.value ∙ c.name.ensures)) ∙ sym c.is_among.ensures ∙ c.if-is_among.true)
    (c.in_ok-push_originals.ensures ∙ ap (λ (name : Text). map string_bytes c.entries.leaving.items ++ originals_of c.args.backs_up (map lent_text c.args.names.now) name) c.name-then-is_among.ensures)
    c.entries.invariant
