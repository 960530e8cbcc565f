use Rattle.std.proofs.Common.{suc, ◌≡◌, ◌∙◌, ◌+◌, ◌∷◌, drop, length, refl, sym, ap, arith, length-drop}
use Rattle.std.specs.List.{slice_split, position_or_len}
use Rattle.std.proofs.lemmas.Str.Pattern.{split_once_first}
use Rattle.follow_filters.specs.Lists.{is_comma}
use Rattle.follow_filters.proofs.ListLemmas.{split-at, split-whole}
use Rattle.follow_filters.proofs.lists.split_list.Goals as goal

pub returns-in-Some : goal.returns-in-Some
returns-in-Some c =
    let list = c.args.list.now in
    let n = position_or_len is_comma list in
    let found = split_once_first 44 list c.split_once.result c.split_once.ensures.cases (omega arith) in
    let at = rw c.in-Some.is at found in
    let next : suc n ≡ n + 1 = omega arith in
    let size = ap length at.2 in (
      split-at is_comma list n refl at.0
          ∙ ap (λ f. f ∷ slice_split is_comma (drop (suc n) list)) (sym at.1)
          ∙ ap (λ r. c.in-Some.first.now ∷ slice_split is_comma r) (ap (λ k. drop k list) next ∙ sym at.2),
      (let left = simp length-drop at size in let within = at.0 in omega arith),
    )

pub returns-in-None : goal.returns-in-None
returns-in-None c =
    let list = c.args.list.now in
    let found = split_once_first 44 list c.split_once.result c.split_once.ensures.cases (omega arith) in
    split-whole is_comma list (rw c.in-None.is at found)
