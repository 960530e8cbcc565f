-- The files that go are the same for other lists of the same names.
use Rattle.std.proofs.Common.{◌≡◌, ◌∙◌, ◌&&◌, ◌||◌, Bool, true, false, not, List, [], ◌∷◌, ◌++◌, append_assoc, cond, codes, refl, sym, ap}
use Rattle.std.specs.List.{filter, list_any}
use Rattle.std.specs.List.Sorted.{IsPermutation}
use Rattle.std.proofs.lemmas.List.Elements.{filter_agree}
use Rattle.std.proofs.lemmas.List.Sorted.{list_any-IsPermutation}
use Rattle.address.specs.Address.{AddressText}
use Rattle.mirror_index.specs.Entries.{Entry, Text}
use Rattle.mirror_upkeep.specs.Leaving.{files, files_of, is_displaced, is_gone, is_renewed, is_to_go, originals, originals_of, other_name}
use Rattle.mirror_upkeep.specs.Names.{has_name, is_directory_of, is_in_way}
use Rattle.mirror_upkeep.proofs.NameLaws.{has_moved}

-- the files so far and those of the rest are all, after one more entry that goes
pub one_more : (backs_up : Bool) (names : List Text) (goes : Entry → Bool) (e : Entry) (later rest : List Entry) (old new all : List Text)
    → rest ≡ e ∷ later → goes e ≡ true → new ≡ old ++ files_of backs_up names e.name
    → old ++ files backs_up names (filter goes rest) ≡ all → new ++ files backs_up names (filter goes later) ≡ all
one_more backs_up names goes e later rest old new all begins this added before =
    let after = files backs_up names (filter goes later) in
    let with_this : filter goes (e ∷ later) ≡ e ∷ filter goes later = ap (λ (b : Bool). cond b (e ∷ filter goes later) (filter goes later)) this in
    ap (λ (ns : List Text). ns ++ after) added
    ∙ append_assoc old (files_of backs_up names e.name) after
    ∙ ap (λ (es : List Entry). old ++ files backs_up names es) (sym with_this)
    ∙ ap (λ (es : List Entry). old ++ files backs_up names (filter goes es)) (sym begins)
    ∙ before

module _ (xs ys : List Text) (moved : IsPermutation ys xs) where
  same_has : (name : Text) → has_name xs name ≡ has_name ys name
  same_has name = sym (has_moved ys xs name moved)

  same_other : (name : Text) → other_name xs name ≡ other_name ys name
  same_other name = ap (λ (b : Bool). cond b [] (name ∷ [])) (same_has name)

  same_both : {ms ns os ps : List Text} → ms ≡ ns → os ≡ ps → ms ++ os ≡ ns ++ ps
  same_both {ms} {ns} {os} {ps} m o = ap (λ (l : List Text). l ++ os) m ∙ ap (λ (l : List Text). ns ++ l) o

  same_originals : (backs_up : Bool) (name : Text) → originals_of backs_up xs name ≡ originals_of backs_up ys name
  same_originals true name = same_both (same_other (name ++ codes ".orig")) (same_other (codes ".wgetr%orig/" ++ name))
  same_originals false name = same_other (codes ".wgetr%orig/" ++ name)

  same_of : (backs_up : Bool) (name : Text) → files_of backs_up xs name ≡ files_of backs_up ys name
  same_of backs_up name = same_both (same_originals backs_up name) (same_other name)

  same_files : (backs_up : Bool) (es : List Entry) → files backs_up xs es ≡ files backs_up ys es
  same_files backs_up [] = refl
  same_files backs_up (e ∷ es) =
      ap (λ (ns : List Text). ns ++ files backs_up xs es) (same_of backs_up e.name) ∙ ap (λ (ns : List Text). files_of backs_up ys e.name ++ ns) (same_files backs_up es)

  same_gone : (e : Entry) → is_gone xs e ≡ is_gone ys e
  same_gone e = ap not (same_has e.name)

  same_way : (name : Text) → is_in_way xs name ≡ is_in_way ys name
  same_way name =
      ap (λ (b : Bool). b || list_any (λ other. is_directory_of other name) xs) (sym (list_any-IsPermutation (is_directory_of name) ys xs moved))
      ∙ ap (λ (b : Bool). list_any (is_directory_of name) ys || b) (sym (list_any-IsPermutation (λ other. is_directory_of other name) ys xs moved))

  same_to_go : (kept : List AddressText) (e : Entry) → is_to_go xs kept e ≡ is_to_go ys kept e
  same_to_go kept e =
      ap (λ (b : Bool). b && (has_name kept e.address || is_in_way xs e.name)) (same_gone e) ∙ ap (λ (b : Bool). is_gone ys e && (has_name kept e.address || b)) (same_way e.name)

  pub gone_moved : (backs_up : Bool) (es : List Entry) → files backs_up xs (filter (is_gone xs) es) ≡ files backs_up ys (filter (is_gone ys) es)
  gone_moved backs_up es = same_files backs_up (filter (is_gone xs) es) ∙ ap (files backs_up ys) (filter_agree (is_gone xs) (is_gone ys) same_gone es)

  pub way_moved : (backs_up : Bool) (kept : List AddressText) (es : List Entry) → files backs_up xs (filter (is_to_go xs kept) es) ≡ files backs_up ys (filter (is_to_go ys kept) es)
  way_moved backs_up kept es = same_files backs_up (filter (is_to_go xs kept) es) ∙ ap (files backs_up ys) (filter_agree (is_to_go xs kept) (is_to_go ys kept) (same_to_go kept) es)

  pub originals_moved : (backs_up : Bool) (es : List Entry) → originals backs_up xs es ≡ originals backs_up ys es
  originals_moved backs_up [] = refl
  originals_moved backs_up (e ∷ es) =
      ap (λ (ns : List Text). ns ++ originals backs_up xs es) (same_originals backs_up e.name) ∙ ap (λ (ns : List Text). originals_of backs_up ys e.name ++ ns) (originals_moved backs_up es)

  pub renewed_moved : (es : List Entry) → filter (is_renewed xs) es ≡ filter (is_renewed ys) es
  renewed_moved es = filter_agree (is_renewed xs) (is_renewed ys) (λ e. same_has e.name) es

  pub displaced_moved : (alone : List Text) → filter (is_displaced xs) alone ≡ filter (is_displaced ys) alone
  displaced_moved alone = filter_agree (is_displaced xs) (is_displaced ys) (λ name. sym (list_any-IsPermutation (λ other. is_directory_of other name) ys xs moved)) alone

-- a name that goes or not, before others
one_before : (b : Bool) (name : Text) (others : List Text) → cond b (name ∷ []) [] ++ others ≡ cond b (name ∷ others) others
one_before true name others = refl
one_before false name others = refl

-- the names so far and those of the rest are all, after one more name
pub one_more_name : (goes : Text → Bool) (name : Text) (later rest old new all : List Text)
    → rest ≡ name ∷ later → new ≡ old ++ cond (goes name) (name ∷ []) []
    → old ++ filter goes rest ≡ all → new ++ filter goes later ≡ all
one_more_name goes name later rest old new all begins added before =
    ap (λ (ns : List Text). ns ++ filter goes later) added
    ∙ append_assoc old (cond (goes name) (name ∷ []) []) (filter goes later)
    ∙ ap (λ (ns : List Text). old ++ ns) (one_before (goes name) name (filter goes later))
    ∙ ap (λ (ns : List Text). old ++ filter goes ns) (sym begins)
    ∙ before

-- the copies so far and those of the rest are all, after one more entry's
pub one_more_copied : (backs_up : Bool) (names : List Text) (goes : Entry → Bool) (e : Entry) (later rest : List Entry) (old new all : List Text)
    → rest ≡ e ∷ later → goes e ≡ true → new ≡ old ++ originals_of backs_up names e.name
    → old ++ originals backs_up names (filter goes rest) ≡ all → new ++ originals backs_up names (filter goes later) ≡ all
one_more_copied backs_up names goes e later rest old new all begins this added before =
    let after = originals backs_up names (filter goes later) in
    let with_this : filter goes (e ∷ later) ≡ e ∷ filter goes later = ap (λ (b : Bool). cond b (e ∷ filter goes later) (filter goes later)) this in
    ap (λ (ns : List Text). ns ++ after) added
    ∙ append_assoc old (originals_of backs_up names e.name) after
    ∙ ap (λ (es : List Entry). old ++ originals backs_up names es) (sym with_this)
    ∙ ap (λ (es : List Entry). old ++ originals backs_up names (filter goes es)) (sym begins)
    ∙ before

-- the same copies of the same renewed files, of other lists of the same names
pub outdated_moved : (xs ys ms ns : List Text) → IsPermutation ys xs → IsPermutation ns ms → (backs_up : Bool) (es : List Entry)
    → originals backs_up xs (filter (is_renewed ms) es) ≡ originals backs_up ys (filter (is_renewed ns) es)
outdated_moved xs ys ms ns moved others backs_up es =
    originals_moved xs ys moved backs_up (filter (is_renewed ms) es) ∙ ap (originals backs_up ys) (renewed_moved ms ns others es)
