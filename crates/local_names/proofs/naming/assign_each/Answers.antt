use Rattle.std.proofs.Common.{◌≡◌, ◌+◌, ◌<◌, ◌⊎◌, ℕ, List, [], ◌∷◌, ◌++◌, map, length, get_or, unwrap_or, IsSome, inl, inr, sym, ap, ◌∙◌, subst, arith}
use Rattle.std.proofs.lemmas.List.{get_or-map, length-map, length_push}
use Rattle.std.specs.BTreeMap.{get_by_text}
use Rattle.std.specs.String.{string_bytes}
use Rattle.local_names.specs.Names.{IsDirectory, numbered_by}
use Rattle.local_names.specs.Endings.{stem_of}
use Rattle.local_names.specs.inner.Taken.{lent_text, remembered, IsPast}
use Rattle.local_names.proofs.NamingLaws.{Assigned, IsBehind, Assigned-first, Assigned-start, Assigned-step, IsNaming_from, same_directories, map_push}
use Rattle.local_names.proofs.LeastLaws.{behind_from_past}
use Rattle.local_names.proofs.naming.assign_each.Goals as goal

pub loop-i-init : goal.loop-i-init
loop-i-init c =
    let plain = map string_bytes c.args.plain.now in
    let next = get_by_text c.args.next.now in
    record {
      assigned = subst (λ items. Assigned c.args.has_endings plain (map string_bytes items) next) (sym c.requires.unnamed) (Assigned-first c.args.has_endings plain next c.requires.unasked);
      count = ap length c.requires.unnamed;
    }

pub first_free-requires : goal.first_free-requires
first_free-requires c =
    let plain = map string_bytes c.args.plain.now in
    let names = map string_bytes c.loop-i.names.items in
    let own = c.as_str-own.result.now in
    let next = get_by_text c.loop-i.next in
    let long : length names ≡ c.loop-i.i = length-map c.loop-i.names.items string_bytes ∙ c.loop-i.invariant.count in
    let all = length-map c.args.plain.now string_bytes in
    let place : own ≡ get_or plain (length names) [] =
    c.as_str-own.ensures.value
    ∙ ap string_bytes c.index-plain-i.is
    ∙ sym (get_or-map string_bytes c.args.plain.now c.loop-i.i c.index-plain-i.result [] (omega arith))
    ∙ ap (λ i. get_or plain i []) (sym long) in
    record {
      sorted = c.requires.sorted;
      few = c.requires.few;
      passed = λ v k held below. elim (Assigned-start c.args.has_endings plain names next c.loop-i.invariant.assigned own place (omega (arith, long, all)) v (sym (ap (λ o. unwrap_or o 0) held)) k below) [
        | inl inside ↦ inl ((same_directories plain (map lent_text c.args.sorted.now) c.requires.same (numbered_by c.args.has_endings own k)).0 inside)
        | inr has ↦ inr has
      ];
    }

pub note-requires : goal.note-requires
note-requires c =
    let all = length-map c.args.plain.now string_bytes in
    let stems = length-map (map string_bytes c.args.plain.now) (stem_of c.args.has_endings) in
    let rest = length-map c.args.least.now lent_text in
    let count = c.requires.least.count in
    record { place = omega arith; small = c.in_ok-name.ensures.small }

pub loop-i-preserved : goal.loop-i-preserved
loop-i-preserved c =
    let inv = c.loop-i.invariant in
    let plain = map string_bytes c.args.plain.now in
    let names = map string_bytes c.loop-i.names.items in
    let own = c.as_str-own.result.now in
    let name = string_bytes c.in_ok-name.name in
    let number = c.in_ok-name.number in
    let next = get_by_text c.loop-i.next in
    let long : length names ≡ c.loop-i.i = length-map c.loop-i.names.items string_bytes ∙ inv.count in
    let place : own ≡ get_or plain (length names) [] =
    c.as_str-own.ensures.value
    ∙ ap string_bytes c.index-plain-i.is
    ∙ sym (get_or-map string_bytes c.args.plain.now c.loop-i.i c.index-plain-i.result [] (omega arith))
    ∙ ap (λ i. get_or plain i []) (sym long) in
    let same = c.requires.same in
    let free : ¬ (IsDirectory plain name ⊎ IsSome (next name)) = λ taken. c.in_ok-name.ensures.free (elim taken [
      | inl inside ↦ inl ((same_directories plain (map lent_text c.args.sorted.now) same name).0 inside)
      | inr has ↦ inr has
    ]) in
    let before : (k : ℕ) → k < number → IsDirectory plain (numbered_by c.args.has_endings own k) ⊎ IsSome (next (numbered_by c.args.has_endings own k)) = λ k less. elim (c.in_ok-name.ensures.before k less) [
      | inl inside ↦ inl ((same_directories plain (map lent_text c.args.sorted.now) same (numbered_by c.args.has_endings own k)).1 inside)
      | inr has ↦ inr has
    ] in
    let least = map lent_text c.args.least.now in
    let all = length-map c.args.plain.now string_bytes in
    let called = c.as_str.ensures.value in
    let new : ((q : List ℕ) → get_by_text c.note.new.next q ≡ remembered next own name number q) ⊎ (IsBehind c.args.has_endings plain (length names + 1) name × ((q : List ℕ) → get_by_text c.note.new.next q ≡ next q)) =
    elim c.in_ok-note.ensures [
      | inl put ↦ inl (λ q. put q ∙ ap (λ n. remembered next own n number q) called)
      | inr (past, kept) ↦ inr (subst (λ n. IsBehind c.args.has_endings plain (n + 1) name) (sym long) (behind_from_past c.args.has_endings plain least c.loop-i.i name c.requires.least (subst (IsPast least c.loop-i.i) called past)), kept)
    ] in
    let step = Assigned-step c.args.has_endings plain names next (get_by_text c.note.new.next) own name number inv.assigned place (omega (arith, long, all)) c.in_ok-name.ensures.name free before new in
    let pushed : map string_bytes c.push.new.self.items ≡ names ++ name ∷ [] = ap (map string_bytes) c.in_ok-push.ensures.items ∙ map_push string_bytes c.loop-i.names.items c.in_ok-name.name in
    record {
      assigned = subst (λ xs. Assigned c.args.has_endings plain xs (get_by_text c.note.new.next)) (sym pushed) step;
      count = ap length c.in_ok-push.ensures.items ∙ length_push c.loop-i.names.items c.in_ok-name.name ∙ ap (λ n. n + 1) inv.count;
    }

pub returns : goal.returns
returns c =
    let inv = c.loop-i.invariant in
    let count = inv.count in
    let plain = map string_bytes c.args.plain.now in
    let names = map string_bytes c.loop-i.names.items in
    IsNaming_from c.args.has_endings plain names (get_by_text c.loop-i.next) inv.assigned (length-map c.loop-i.names.items string_bytes ∙ (let e : length c.loop-i.names.items ≡ length c.args.plain.now = omega arith in e) ∙ sym (length-map c.args.plain.now string_bytes))
