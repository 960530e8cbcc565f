use Rattle.std.proofs.Common.{◌≡◌, ◌+◌, List, ℕ, [], ◌∷◌, ◌++◌, map, take, Contains, sym, ap, ◌∙◌, subst, arith}
use Rattle.std.proofs.lemmas.List.{take_all, take_more}
use Rattle.std.proofs.lemmas.List.Sorted.{Contains-permutation, IsPermutation-map, IsPermutation-sym}
use Rattle.std.specs.String.{string_bytes}
use Rattle.local_names.specs.inner.Taken.{lent_text}
use Rattle.local_names.proofs.NamingLaws.{map_push}
use Rattle.local_names.proofs.naming.in_order.Goals as goal

pub loop-name-init : goal.loop-name-init
loop-name-init c = ap (map lent_text) c.new-sorted.ensures.items

pub loop-name-preserved : goal.loop-name-preserved
loop-name-preserved c =
    let names = c.args.names.now in
    let i = c.loop-name.name-index in
    let item = c.name-item.result in
    let more : map string_bytes (take (i + 1) names) ≡ map string_bytes (take i names) ++ string_bytes item ∷ [] =
    ap (map string_bytes) (take_more names i item (omega arith) ∙ ap (λ x. take i names ++ x ∷ []) (sym c.name-item.is)) ∙ map_push string_bytes (take i names) item in
    ap (map lent_text) c.in_ok-push.ensures.items
    ∙ map_push lent_text c.loop-name.sorted.items c.as_str.result
    ∙ ap (λ (xs : List (List ℕ)). xs ++ c.as_str.result.now ∷ []) c.loop-name.invariant
    ∙ ap (λ (x : List ℕ). map string_bytes (take i names) ++ x ∷ []) c.as_str.ensures.value
    ∙ sym more

pub returns-clause-same : goal.returns-clause-same
returns-clause-same c =
    let old = c.loop-name.sorted.items in
    let new = c.sort.new.self.items in
    let same : map lent_text old ≡ map string_bytes c.args.names.now = c.loop-name.invariant ∙ ap (map string_bytes) (take_all c.loop-name.name-index c.args.names.now (omega arith)) in
    let moved = IsPermutation-map lent_text old new c.in_ok-sort.ensures.permutation in
    λ name. (
      λ held. Contains-permutation (map lent_text old) (map lent_text new) name moved (subst (λ names. Contains names name) (sym same) held),
      λ held. subst (λ names. Contains names name) same (Contains-permutation (map lent_text new) (map lent_text old) name (IsPermutation-sym (map lent_text old) (map lent_text new) moved) held),
    )
