use Rattle.std.proofs.Common.{List, ℕ, Some, string_bytes, refl, sym, subst}
use Rattle.std.proofs.lemmas.List.{append-nil}
use Rattle.entry_lines.specs.Lines.{text, recovered}
use Rattle.entry_lines.proofs.LineLaws.{are_recovered}
use Rattle.run_store.proofs.Fronts.{torn_none}
use Rattle.run_store.proofs.index.Index.new.Goals as goal

pub returns-clause-ready : goal.returns-clause-ready
returns-clause-ready g c bytes r =
    let D = g.D.Disk in
    let es = recovered bytes in
    record {
      is_open = refl;
      is_opened = r.is_opened;
      stands = subst (λ (l : List (List ℕ)). D.seen c.args.disk (string_bytes c.args.name) (Some (text l))) (sym (append-nil es)) r.is_whole.stands;
      is_named = r.is_named;
      torn = torn_none es (text es) (D.kept c.args.disk (string_bytes c.args.name)) refl r.is_whole.only;
      are_done = are_recovered bytes;
      are_added = tt;
    }
