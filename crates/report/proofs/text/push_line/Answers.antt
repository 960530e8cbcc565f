-- The clause has the parts of the line in other brackets, and says what its word and its name are.
use Rattle.std.proofs.Common.{◌≡◌, ◌∙◌, List, ℕ, Bor, Option, Some, None, append_assoc, ap, codes, refl}
use Rattle.std.specs.Prelude.{option_map, unwrap_or}
use Rattle.report.specs.Report.{name_text}
use Rattle.report.proofs.text.push_line.Goals as goal

named : (name : Option (Bor (List ℕ))) → (dash : Bor (List ℕ)) → dash.now ≡ codes "-" → (unwrap_or name dash).now ≡ name_text (option_map (λ said. said.now) name)
named (Some said) dash is = refl
named None dash is = is

pub returns : goal.returns
returns c =
    let name : c.unwrap_or-name.result.now ≡ name_text (option_map (λ said. said.now) c.row.inside.name) = ap (λ said. said.now) c.unwrap_or-name.ensures ∙ named c.row.inside.name _ refl in
    record { ok = rw (← c.row.view_is) (simp append_assoc (rw (c.word_of-word.ensures, name) at c.writeln.ensures.bytes)) }
