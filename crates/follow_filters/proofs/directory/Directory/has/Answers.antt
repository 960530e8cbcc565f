use Rattle.std.proofs.Common.{◌≡◌, ◌∙◌, Some, sym, ap}
use Rattle.follow_filters.specs.Directories.{begins_with_names, names_in, read_names}
use Rattle.follow_filters.proofs.DirectoryLemmas.{is_in_directory-names}
use Rattle.follow_filters.proofs.directory.Directory.has.Goals as goal

pub returns : goal.returns
returns c =
    let names = c.self.inside.names.items in
    let reads : read_names c.args.self.now ≡ Some names = ap read_names (sym c.self.view_is) ∙ c.self.invariant in
    c.begins_with_names.ensures
    ∙ ap (λ ns. begins_with_names c.args.ignores_case ns (names_in c.args.dir.now)) c.as_slice.ensures.value
    ∙ sym (is_in_directory-names c.args.ignores_case c.args.self.now c.args.dir.now names reads)
