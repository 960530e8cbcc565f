-- A put that was refused changed no file, whether it was to fail or memory ran out.
use Rattle.std.proofs.Common.{◌≡◌, ◌+◌, ◌-◌, ◌^◌, min, false, refl, sym, ap, ◌∙◌, arith}
use Rattle.std.specs.Result.{is_ok}
use Rattle.local_tree.specs.MemoryFolders.{Kept, file_in}
use Rattle.local_tree.proofs.FolderLaws.{unkept}
use Rattle.local_tree.proofs.memory_folder.MemoryFolderFolder.put.Goals.{else-ne-via-then-ne+else-is_ok, else-ne-via-else-ne}
use Rattle.local_tree.proofs.memory_folder.MemoryFolderFolder.put.Goals as goal

pub returns : goal.returns
returns c =
    let old = c.args.self.now in
    let now = c.else-ne.self in
    let seen = c.self.view_is in
    let refused : (now.files ≡ old.files) × (now.failed ≡ old.failed) × (now.failing ≡ old.failing) × (now.puts ≡ min (old.puts + 1) (2 ^ 64 - 1)) = elim c.else-ne.branch [
      | else-ne-via-then-ne+else-is_ok w ↦ (
          let none : is_ok w.keep.result ≡ false = sym w.is_ok.ensures.value ∙ w.if-is_ok.false in (
            ap (λ (v : Kept). v.files) w.self-is ∙ unkept w.keep.result _ none w.keep.ensures.same ∙ ap (λ (v : Kept). v.files) seen,
            ap (λ (v : Kept). v.failed) w.self-is ∙ w.keep.ensures.failed ∙ ap (λ (v : Kept). v.failed) seen,
            ap (λ (v : Kept). v.failing) w.self-is ∙ w.keep.ensures.failing ∙ ap (λ (v : Kept). v.failing) seen,
            ap (λ (v : Kept). v.puts) w.self-is ∙ w.keep.ensures.puts ∙ c.saturating_add-self-inside.ensures ∙ ap (λ (v : Kept). min (v.puts + 1) (2 ^ 64 - 1)) seen,
          ))
      | else-ne-via-else-ne w ↦ (
        ap (λ (v : Kept). v.files) w.self-is ∙ ap (λ (v : Kept). v.files) seen,
        ap (λ (v : Kept). v.failed) w.self-is ∙ ap (λ (v : Kept). v.failed) seen,
        ap (λ (v : Kept). v.failing) w.self-is ∙ ap (λ (v : Kept). v.failing) seen,
        ap (λ (v : Kept). v.puts) w.self-is ∙ c.saturating_add-self-inside.ensures ∙ ap (λ (v : Kept). min (v.puts + 1) (2 ^ 64 - 1)) seen,
      )
    ] in
    let after = c.self-2.view_is in
    let files = ap (λ (v : Kept). v.files) after ∙ refused.0 in
    let failed = ap (λ (v : Kept). v.failed) after ∙ refused.1 in
    record {
      put = tt;
      torn = λ other apart. ap (λ kept. file_in kept other) files;
      counted = omega arith;
      same = files;
      planned = λ is. refl;
      puts = ap (λ (v : Kept). v.puts) after ∙ refused.3;
      failing = ap (λ (v : Kept). v.failing) after ∙ refused.2;
    }
