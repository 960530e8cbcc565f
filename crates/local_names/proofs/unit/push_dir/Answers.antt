use Rattle.std.proofs.Common.{◌≡◌, ◌++◌, ◌&&◌, true, false, map, take, length, codes, ap, sym, ◌∙◌}
use Rattle.std.specs.String.{string_bytes}
use Rattle.local_names.specs.declared.plain_name.TheConstants.{MAX_SEGMENT}
use Rattle.local_names.specs.PlainNames.{cut_in, is_original}
use Rattle.local_names.specs.inner.Units.{unit_text, started, is_new, below_within}
use Rattle.local_names.proofs.OriginalLaws.{dir_alone, dir_with_one, front_again}
use Rattle.local_names.proofs.unit.push_dir.Goals.{then-has_originals+then-is_original+in_ok-push_escaped-2+in_ok-push_str, else-has_originals, else-has_originals-via-then-has_originals+else-is_original, else-has_originals-via-else-has_originals}
use Rattle.local_names.proofs.unit.push_dir.Goals as goal

pub returns : goal.returns
returns c =
    let old = string_bytes c.args.name.now in
    let has = c.args.has_originals in
    let units = map unit_text c.args.units.items in
    let name = string_bytes c.push_escaped.new.name in
    let escaped = ap (map unit_text) c.deref.ensures.value ∙ c.escape_dots.ensures in
    let is : name ≡ below_within MAX_SEGMENT old units = c.in_ok-push_escaped.ensures ∙ ap (λ us. started old ++ cut_in (is_new old) MAX_SEGMENT us) escaped in
    elim c.if-has_originals.branch [
      | then-has_originals+then-is_original+in_ok-push_escaped-2+in_ok-push_str w ↦ (
          let test : (has && is_original name) ≡ true =
          ap (λ b. b && is_original name) w.if-has_originals.true ∙ ap is_original (sym w.as_str.ensures.value) ∙ sym w.is_original.ensures ∙ w.if-is_original.true in
          let again : string_bytes w.truncate.new.self ≡ old =
          w.truncate.ensures.bytes ∙ ap (λ text. take c.len-len.result text) is ∙ ap (λ n. take n (below_within MAX_SEGMENT old units)) (c.len-len.ensures ∙ c.args.name.now.bytes.ok.0) ∙ front_again old MAX_SEGMENT units in
          let cut : string_bytes w.push_escaped-then-is_original.new.name ≡ below_within 198 old units =
          w.in_ok-push_escaped-2.ensures
          ∙ ap (λ n. started n ++ cut_in (is_new n) 198 (map unit_text w.deref-then-is_original.result.now)) again
          ∙ ap (λ us. started old ++ cut_in (is_new old) 198 us) (ap (map unit_text) w.deref-then-is_original.ensures.value ∙ c.escape_dots.ensures) in
          ap string_bytes w.name-is ∙ w.in_ok-push_str.ensures.bytes ∙ ap (λ n. n ++ codes ".1") cut ∙ dir_with_one old name units has is test)
      | else-has_originals w ↦ (
          ap string_bytes w.name-is ∙ dir_alone old name units has is
          (elim w.else-has_originals.branch [
            | else-has_originals-via-then-has_originals+else-is_original v ↦
                ap (λ b. b && is_original name) v.if-has_originals.true ∙ ap is_original (sym v.as_str.ensures.value) ∙ sym v.is_original.ensures ∙ v.if-is_original.false
            | else-has_originals-via-else-has_originals v ↦ ap (λ b. b && is_original name) v.if-has_originals.false
          ]))
    ]
