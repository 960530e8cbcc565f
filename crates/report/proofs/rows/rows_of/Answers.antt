-- An entry has a row, or none.
use Rattle.std.proofs.Common.{◌≡◌, ◌∷◌, [], ◌++◌, ℕ, List, Option, Some, None, map, option_map, ap, sym, ◌∙◌, arith}
use Rattle.std.specs.String.{string_bytes}
use Rattle.frontier_core.specs.Readers.{Recorded}
use Rattle.harvest.specs.Harvests.{Harvested}
use Rattle.harvest.specs.declared.entry.HarvestEntry.{HarvestEntry}
use Rattle.report.specs.Entries.{fate_at, line_at, line_with}
use Rattle.report.specs.Report.{Line, Fate}
use Rattle.report.proofs.ListLaws.{given_none, given_some}
use Rattle.report.proofs.rows.rows_of.Goals as goal

-- the line of an entry by what became of it among the records
line_by : {B : Type 0} (h : Harvested B) (names : List (List ℕ)) (records : List Recorded) (e : HarvestEntry) (fate : Option Fate) → records ≡ h.records → fate ≡ fate_at records e.refused e.answer
    → line_at h names e ≡ option_map (line_with h names e) fate
line_by h names records e fate same is = ap (λ (f : Option Fate). option_map (line_with h names e) f) (sym (is ∙ ap (λ (rs : List Recorded). fate_at rs e.refused e.answer) same))

pub loop-entry-preserved-in_default : goal.loop-entry-preserved-in_default
loop-entry-preserved-in_default g c =
    let names = map string_bytes c.args.names.now in
    let h = line_at c.args.harvest.now names in
    c.loop-entry.invariant
    ∙ sym (given_none h c.entries-entry-items.result.now c.loop-entry.entry-index c.entry-item.result (omega arith)
    (ap h (sym c.entry-item.is) ∙ line_by c.args.harvest.now names _ _ None c.records-records.ensures.value c.in_default.ensures))

pub loop-entry-preserved : goal.loop-entry-preserved
loop-entry-preserved g c =
    let names = map string_bytes c.args.names.now in
    let h = line_at c.args.harvest.now names in
    c.in_ok-push.ensures.items ∙ ap (λ (lines : List Line). lines ++ c.row_of-row.result ∷ []) c.loop-entry.invariant
    ∙ sym (given_some h c.entries-entry-items.result.now c.loop-entry.entry-index c.entry-item.result c.row_of-row.result (omega arith)
    (ap h (sym c.entry-item.is) ∙ line_by c.args.harvest.now names _ _ (Some _) c.records-records.ensures.value c.in-Some.ensures ∙ ap Some (sym c.row_of-row.ensures)))
