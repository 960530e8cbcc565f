-- The files of one more entry, before those of the rest.
use Rattle.std.proofs.Common.{◌∙◌, ◌++◌, not, map, sym, ap, string_bytes}
use Rattle.std.specs.List.{filter}
use Rattle.mirror_index.specs.Entries.{Text}
use Rattle.mirror_upkeep.specs.Leaving.{files, files_of, is_gone}
use Rattle.mirror_upkeep.specs.Names.{has_name}
use Rattle.mirror_upkeep.specs.inner.Lent.{lent_text}
use Rattle.mirror_upkeep.proofs.LeavingLaws.{one_more}
use Rattle.mirror_upkeep.proofs.leaving.gone_beside.Goals as goal

pub entries-preserved-in_ok-push_files : goal.entries-preserved-in_ok-push_files
entries-preserved-in_ok-push_files c =
    let goes = (is_gone (map lent_text c.args.names.now)) in
    one_more c.args.backs_up (map lent_text c.args.names.now) goes c.in-Some.entry.now c.in-Some.later.now c.entries.rest.now
    (map string_bytes c.entries.leaving.items) (map string_bytes c.push_files.new.leaving.items) (files c.args.backs_up (map lent_text c.args.names.now) (filter goes c.args.earlier.now))
    c.in-Some.ensures.cases.0 (ap not (ap (λ (name : Text). has_name (map lent_text c.args.names.now) name) (sym (c.as_bytes.ensures.value ∙ c.name.ensures)) ∙ sym c.is_among.ensures ∙ c.if-not-is_among.true))
    (c.in_ok-push_files.ensures ∙ ap (λ (name : Text). map string_bytes c.entries.leaving.items ++ files_of c.args.backs_up (map lent_text c.args.names.now) name) c.name-then-not-is_among.ensures)
    c.entries.invariant
