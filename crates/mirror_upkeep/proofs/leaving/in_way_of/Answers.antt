-- The files of one more entry, before those of the rest.
use Rattle.std.proofs.Common.{◌∙◌, ◌++◌, map, sym, ap, string_bytes}
use Rattle.std.specs.List.{filter}
use Rattle.mirror_index.specs.Entries.{Text}
use Rattle.mirror_upkeep.specs.Leaving.{files, files_of, is_to_go}
use Rattle.mirror_upkeep.specs.inner.Lent.{lent_text}
use Rattle.mirror_upkeep.proofs.LeavingLaws.{one_more}
use Rattle.mirror_upkeep.proofs.leaving.in_way_of.Goals as goal

pub entries-preserved-in_ok-push_files : goal.entries-preserved-in_ok-push_files
entries-preserved-in_ok-push_files c =
    let goes = (is_to_go (map lent_text c.args.names.now) c.args.kept.now) in
    one_more c.args.backs_up (map lent_text c.args.names.now) goes c.in-Some.entry.now c.in-Some.later.now c.entries.rest.now
    (map string_bytes c.entries.leaving.items) (map string_bytes c.push_files.new.leaving.items) (files c.args.backs_up (map lent_text c.args.names.now) (filter goes c.args.earlier.now))
    c.in-Some.ensures.cases.0 (sym c.in_ok-goes.ensures ∙ c.if-goes.true)
    (c.in_ok-push_files.ensures ∙ ap (λ (name : Text). map string_bytes c.entries.leaving.items ++ files_of c.args.backs_up (map lent_text c.args.names.now) name) c.name.ensures)
    c.entries.invariant
