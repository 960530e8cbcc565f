-- There is a NUL, or none.
use Rattle.std.proofs.Common.{◌≡◌, ◌∙◌, ◌∷◌, length, refl, sym, ap, arith, length-drop}
use Rattle.std.specs.List.{slice_split, after_first}
use Rattle.std.proofs.lemmas.List.Splits.{slice_split_first}
use Rattle.std.proofs.lemmas.Str.Pattern.{split_once_first}
use Rattle.requests.specs.Fields.{is_nul}
use Rattle.requests.proofs.LineLemmas.{split-whole}
use Rattle.requests.proofs.fields.split_lines.Goals as goal

pub returns-in-Some : goal.returns-in-Some
returns-in-Some c =
    let lines = c.args.lines.now in
    let found = split_once_first 0 lines c.split_once.result c.split_once.ensures.cases (omega arith) in
    let at = rw c.in-Some.is at found in
    let length_is = ap length at.2 in (
      slice_split_first is_nul lines 0 at.0
          ∙ ap (λ f. f ∷ slice_split is_nul (after_first is_nul lines)) (sym at.1)
          ∙ ap (λ r. c.in-Some.first.now ∷ slice_split is_nul r) (sym at.2),
      (let left = simp length-drop at length_is in let within = at.0 in omega arith),
    )

pub returns-in-None : goal.returns-in-None
returns-in-None c =
    let lines = c.args.lines.now in
    let found = split_once_first 0 lines c.split_once.result c.split_once.ensures.cases (omega arith) in
    split-whole is_nul lines (rw c.in-None.is at found)
