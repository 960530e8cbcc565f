use Rattle.std.proofs.Common.{rules, arith, ◌≡◌, Some, map, refl, ap, ◌∙◌}
use Rattle.std.proofs.lemmas.Grind.{common_steps}
use Rattle.std.proofs.lemmas.Map.Text.{btree_map_updates_text}
use Rattle.std.proofs.lemmas.Result.{err_from_is_err_and}
use Rattle.std.specs.String.{string_bytes}
use Rattle.local_tree.specs.Folders.{with_file}
use Rattle.local_tree.specs.MemoryFolders.{Kept, file_in}
use Rattle.local_tree.proofs.FolderLaws.{named, kept_file}
use Rattle.local_tree.proofs.memory_folder.MemoryFolder.keep.Goals as goal

pub returns : goal.returns
returns c =
    let key = string_bytes c.in_ok-name.name in
    let value = c.in_ok-bytes.bytes in
    let held : value.items ≡ c.args.bytes.now = first_of (search rules, grind (arith, common_steps)) in
    record {
      kept = λ other.
          kept_file c.self.inside.files c.insert.new.self key c.args.name.now value c.args.bytes.now other c.in_ok-name.ensures.ok held
          (btree_map_updates_text key c.self.inside.files c.insert.new.self (Some value) c.in_ok-insert.ensures.updates other)
          ∙ ap (λ (v : Kept). with_file (file_in v.files) c.args.name.now c.args.bytes.now other) c.self.view_is;
      same = tt;
      puts = ap (λ (v : Kept). v.puts) c.self.view_is;
      failed = ap (λ (v : Kept). v.failed) c.self.view_is;
      failing = ap (λ (v : Kept). v.failing) c.self.view_is;
    }

pub returns-in_err-name : goal.returns-in_err-name
returns-in_err-name c =
    let p = err_from_is_err_and c.from_residual.result c.from_residual.ensures.1 in
    record { kept = rw p.1 tt; same = rw p.1 refl; puts = refl; failed = refl; failing = refl }

pub returns-in_err-bytes : goal.returns-in_err-bytes
returns-in_err-bytes c =
    let p = err_from_is_err_and c.from_residual-in_err-bytes.result c.from_residual-in_err-bytes.ensures.1 in
    record { kept = rw p.1 tt; same = rw p.1 refl; puts = refl; failed = refl; failing = refl }

pub returns-in_err-insert : goal.returns-in_err-insert
returns-in_err-insert c =
    let p = err_from_is_err_and c.from_residual-in_err-insert.result c.from_residual-in_err-insert.ensures.1 in
    record {
      kept = rw p.1 tt;
      same = rw p.1 (ap (map named) c.in_err-insert.ensures.err ∙ ap (λ (v : Kept). v.files) c.self.view_is);
      puts = ap (λ (v : Kept). v.puts) c.self.view_is;
      failed = ap (λ (v : Kept). v.failed) c.self.view_is;
      failing = ap (λ (v : Kept). v.failing) c.self.view_is;
    }
