-- A put that was made leaves the count; one that failed has raised it.
use Rattle.std.proofs.Common.{◌≡◌, true, false, map, length, sym, refl, ap, ◌∙◌, arith}
use Rattle.std.proofs.lemmas.List.{length-map}
use Rattle.std.specs.Result.{is_err}
use Rattle.std.specs.String.{string_bytes}
use Rattle.local_tree.specs.Folders.{DiskValue, one_more_refused}
use Rattle.local_tree.proofs.SiteFilesLaws.{same_count, one_more, risen}
use Rattle.local_tree.proofs.disk_folder.DiskFolder.put_all_by.Goals.{then-begins_batch, else-begins_batch}
use Rattle.local_tree.proofs.disk_folder.DiskFolder.put_all_by.Goals as goal

pub loop-i-init : goal.loop-i-init
loop-i-init g c = refl

pub loop-i-preserved-then-i-named : goal.loop-i-preserved-then-i-named
loop-i-preserved-then-i-named g c =
    elim c.if-begins_batch.branch [
      | then-begins_batch w ↦ ap (λ (f : DiskValue). f.failed) (w.self-is ∙ w.name_batch-named.ensures) ∙ c.loop-i.invariant
      | else-begins_batch w ↦ ap (λ (f : DiskValue). f.failed) w.self-is ∙ c.loop-i.invariant
    ]

pub loop-i-preserved : goal.loop-i-preserved
loop-i-preserved g c =
    let ended : is_err c.put_by_part.result ≡ false = sym c.is_err.ensures.value ∙ c.if-is_err.false in
    let kept : c.if-begins_batch.self.failed ≡ c.args.self.now.failed = elim c.if-begins_batch.branch [
      | then-begins_batch w ↦ ap (λ (f : DiskValue). f.failed) (w.self-is ∙ w.name_batch-named.ensures) ∙ c.loop-i.invariant
      | else-begins_batch w ↦ ap (λ (f : DiskValue). f.failed) w.self-is ∙ c.loop-i.invariant
    ] in
    same_count c.put_by_part.result c.if-begins_batch.self.failed c.put_by_part.new.self.failed ended c.put_by_part.ensures.counted ∙ kept

pub returns-then-is_err : goal.returns-then-is_err
returns-then-is_err g c =
    let ended : is_err c.put_by_part.result ≡ true = sym c.is_err.ensures.value ∙ c.if-is_err.true in
    let kept : c.if-begins_batch.self.failed ≡ c.args.self.now.failed = elim c.if-begins_batch.branch [
      | then-begins_batch w ↦ ap (λ (f : DiskValue). f.failed) (w.self-is ∙ w.name_batch-named.ensures) ∙ c.loop-i.invariant
      | else-begins_batch w ↦ ap (λ (f : DiskValue). f.failed) w.self-is ∙ c.loop-i.invariant
    ] in
    let below = c.loop-i-test.true in
    let long : length (map string_bytes c.args.names.now) ≡ length c.args.names.now = length-map c.args.names.now string_bytes in
    record {
      torn = record {
        place = omega (arith, below, long);
        files = tt;
        risen = risen c.args.self.now.failed c.put_by_part.new.self.failed (one_more c.put_by_part.result c.if-begins_batch.self.failed c.put_by_part.new.self.failed ended c.put_by_part.ensures.counted ∙ ap one_more_refused kept);
      };
      quiet = tt;
    }

pub returns : goal.returns
returns g c = record { torn = tt; quiet = c.loop-i.invariant }
