use Rattle.std.proofs.Common.{suc, ◌≡◌, ◌∙◌, ◌+◌, ◌∷◌, drop, length, refl, sym, ap, arith, length-drop}
use Rattle.std.specs.List.{slice_split, position_or_len}
use Rattle.std.proofs.lemmas.Str.Pattern.{split_once_first}
use Rattle.follow_filters.specs.Directories.{is_slash}
use Rattle.follow_filters.proofs.ListLemmas.{split-at, split-whole}
use Rattle.follow_filters.proofs.directory.split_name.Goals as goal

pub returns-in-Some : goal.returns-in-Some
returns-in-Some c =
    let text = c.args.text.now in
    let n = position_or_len is_slash text in
    let found = split_once_first 47 text c.split_once.result c.split_once.ensures.cases (omega arith) in
    let at = rw c.in-Some.is at found in
    let next : suc n ≡ n + 1 = omega arith in
    let size = ap length at.2 in (
      split-at is_slash text n refl at.0
          ∙ ap (λ f. f ∷ slice_split is_slash (drop (suc n) text)) (sym at.1)
          ∙ ap (λ r. c.in-Some.first.now ∷ slice_split is_slash r) (ap (λ k. drop k text) next ∙ sym at.2),
      (let left = simp length-drop at size in let within = at.0 in omega arith),
    )

pub returns-in-None : goal.returns-in-None
returns-in-None c =
    let text = c.args.text.now in
    let found = split_once_first 47 text c.split_once.result c.split_once.ensures.cases (omega arith) in
    split-whole is_slash text (rw c.in-None.is at found)
