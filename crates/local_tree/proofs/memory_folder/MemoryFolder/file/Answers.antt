use Rattle.std.proofs.Common.{Some, sym, ap, ◌∙◌}
use Rattle.std.specs.Option.{option_map}
use Rattle.local_tree.specs.MemoryFolders.{Kept, file_in}
use Rattle.local_tree.proofs.FolderLaws.{file_of_entries}
use Rattle.local_tree.proofs.memory_folder.MemoryFolder.file.Goals as goal

pub returns-in-Some : goal.returns-in-Some
returns-in-Some c =
    ap Some c.as_slice.ensures.value ∙ ap (option_map (λ bytes. bytes.items)) c.in-Some.ensures.value
    ∙ sym (file_of_entries c.self.inside.files.entries c.args.name.now)
    ∙ ap (λ (v : Kept). file_in v.files c.args.name.now) c.self.view_is

pub returns-in-None : goal.returns-in-None
returns-in-None c =
    ap (option_map (λ bytes. bytes.items)) c.in-None.ensures.value
    ∙ sym (file_of_entries c.self.inside.files.entries c.args.name.now)
    ∙ ap (λ (v : Kept). file_in v.files c.args.name.now) c.self.view_is
