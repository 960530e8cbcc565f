-- What the table of claims says of names.
use Rattle.std.proofs.Common.{◌≡◌, ◌↔◌, ◌⊎◌, ℕ, suc, ◌+◌, ◌-◌, ◌<◌, Bool, true, false, IsTrue, ◌||◌, cond, List, [], ◌∷◌, ◌++◌, map, length, take, drop, get_or, Option, Some, None, is_some, String, sym, refl, ap, ◌∙◌, subst, inl, inr, lit<, arith}
use Rattle.std.proofs.lemmas.Bool.{cases_lt, cases_Bool, cond-true, cond-false, both_ways, false_from_ne_true, or_right}
use Rattle.std.proofs.lemmas.Cmp.{nat_list_eq_equiv}
use Rattle.std.proofs.lemmas.List.{take-append-drop, take-take, drop_more, get_or_at, get_or-take, get_or-append-add, length-append, append_assoc}
use Rattle.std.proofs.lemmas.Slice.Eq.{bytes_eq-Decides}
use Rattle.std.proofs.lemmas.Str.Pattern.{NoCharPasses-char, drop_at_char}
use Rattle.std.proofs.Math.Seq.{take-append_seam}
use Rattle.std.specs.Map.{lookup, IsKeyTest, AreApart, KeepsOthers}
use Rattle.std.specs.Str.{bytes_eq}
use Rattle.std.specs.Str.Pattern.{RFindsChar, SplitsAroundMatch}
use Rattle.std.specs.String.{string_bytes, string_eq}
use Rattle.indexmap.specs.IndexMap.{IndexMap, Updates}
use Rattle.local_names.specs.PlainNames.{slash}
use Rattle.local_names.specs.Names.{IsDirectoryOf}
use Rattle.early_names.specs.Claims.{ClaimsValue, IsClear, is_name, is_claimed}
use Rattle.early_names.specs.inner.Entries.{entry_of, table_of, HasClaimedAbove, IsLongestDirectory, IsUnmarked, IsAdded, IsTable, MarksAll, MarksSome}

-- ---- directories

-- what is before a slash is a directory
pub directory_at : (name : List ℕ) (i : ℕ) → i < length name → get_or name i 0 ≡ slash → IsDirectoryOf name (take i name)
directory_at name i below e =
    (drop (i + 1) name, sym (take-append-drop i name) ∙ ap (λ x. take i name ++ x) (drop_more name i 0 below ∙ ap (λ b. b ∷ drop (i + 1) name) e))

-- a directory is before a slash
pub directory_place : (name directory : List ℕ) → IsDirectoryOf name directory → (length directory < length name) × (get_or name (length directory) 0 ≡ slash) × (take (length directory) name ≡ directory)
directory_place name directory (rest, e) = (
  (let long = length-append directory (slash ∷ rest) in let same = ap length e in omega arith),
  ap (λ x. get_or x (length directory) 0) e ∙ get_or_at directory slash rest 0 (length directory) refl,
  ap (take (length directory)) e ∙ take-append_seam directory (slash ∷ rest),
)

-- no name is a directory of its own
pub not_own : (name : List ℕ) → IsDirectoryOf name name → ⊥
not_own name dir = let place = (directory_place name name dir).0 in absurd (omega arith)

-- a directory of a directory
pub directory_above : (name below above : List ℕ) → IsDirectoryOf name below → IsDirectoryOf below above → IsDirectoryOf name above
directory_above name below above (rest, e) (between, f) =
    (between ++ slash ∷ rest, e ∙ ap (λ l. l ++ slash ∷ rest) f ∙ append_assoc above (slash ∷ between) (slash ∷ rest))

-- what is before the last slash is the longest directory
longest : (name front back : List ℕ) → name ≡ front ++ slash ∷ back → ((i : ℕ) → i < length back → get_or back i 0 ≡ slash → ⊥) → IsLongestDirectory name front
longest name front back e none = record {
  is = (back, e);
  others = others;
  shorter = let long = length-append front (slash ∷ back) in let same = ap length e in omega arith;
}
  where
    before : take (length front) name ≡ front
    before = ap (take (length front)) e ∙ take-append_seam front (slash ∷ back)

    past : (q : List ℕ) (k : ℕ) → length q ≡ length front + suc k → length q < length name → get_or name (length q) 0 ≡ slash → ⊥
    past q k far below at =
        none k (let long = length-append front (slash ∷ back) in let same = ap length e in omega (arith, far, below))
        (sym (get_or-append-add front (slash ∷ back) (suc k) 0) ∙ ap (λ n. get_or (front ++ slash ∷ back) n 0) (sym far) ∙ ap (λ l. get_or l (length q) 0) (sym e) ∙ at)

    others : (q : List ℕ) → IsDirectoryOf name q → (q ≡ front) ⊎ IsDirectoryOf front q
    others q dir =
        let place = directory_place name q dir in
        elim (cases_lt (length q) (length front)) [
          | inl less ↦
              (let at : get_or front (length q) 0 ≡ slash = ap (λ l. get_or l (length q) 0) (sym before) ∙ get_or-take (length front) name (length q) 0 less ∙ place.1 in
              let cut : take (length q) front ≡ q = ap (take (length q)) (sym before) ∙ take-take (length q) (length front) name (omega (arith, less)) ∙ place.2 in
              inr (subst (IsDirectoryOf front) cut (directory_at front (length q) less at)))
          | inr most ↦ elim (cases_lt (length front) (length q)) [
            | inl more ↦ absurd (past q (length q - (length front + 1)) (omega (arith, more)) place.0 place.1)
            | inr least ↦ (let same : length q ≡ length front = omega (arith, most, least) in inl (sym place.2 ∙ ap (λ n. take n name) same ∙ before))
          ]
        ]

-- a text that is split at its last slash
pub directory_found : (name front back : List ℕ) → SplitsAroundMatch (RFindsChar 47) name front back → IsLongestDirectory name front
directory_found name front back h =
    let whole : name ≡ front ++ slash ∷ back
    = sym (take-append-drop h.0 name) ∙ ap (λ l. take h.0 name ++ l) (drop_at_char 47 name h.0 h.1 h.2.1 (lit< tt)) ∙ ap (λ l. l ++ slash ∷ drop h.1 name) (sym h.3) ∙ ap (λ l. front ++ slash ∷ l) (sym h.4) in
    longest name front back whole (λ k below e. NoCharPasses-char 47 (drop h.1 name) k h.2.0 (lit< tt) (subst (λ l. k < length l) h.4 below) (ap (λ l. get_or l k 0) (sym h.4) ∙ e))

-- a text without a slash
pub no_directory : (name : List ℕ) → RFindsChar 47 name None → (q : List ℕ) → IsDirectoryOf name q → ⊥
no_directory name none q dir = let place = directory_place name q dir in NoCharPasses-char 47 name (length q) none (lit< tt) place.0 place.1

-- ---- directories that are read or marked one after another, the longest first

-- all directories of the name but those of what is left have the property
abbrev pub IsLeft : (List ℕ → Type 0) → List ℕ → List ℕ → Type 0
IsLeft P name rest = ((q : List ℕ) → IsDirectoryOf name q → P q ⊎ IsDirectoryOf rest q) × ((q : List ℕ) → IsDirectoryOf rest q → IsDirectoryOf name q)

pub left_first : (P : List ℕ → Type 0) (name : List ℕ) → IsLeft P name name
left_first P name = (λ q dir. inr dir, λ q dir. dir)

pub left_next : (P : List ℕ → Type 0) (name rest directory : List ℕ) → IsLeft P name rest → IsLongestDirectory rest directory → P directory → IsLeft P name directory
left_next P name rest directory left is here = (
  λ q dir. elim (left.0 q dir) [
    | inl has ↦ inl has
    | inr there ↦ elim (is.others q there) [
      | inl same ↦ inl (subst P (sym same) here)
      | inr above ↦ inr above
    ]
  ],
  λ q dir. left.1 q (directory_above rest directory q is.is dir),
)

pub left_still : (P Q : List ℕ → Type 0) (name rest : List ℕ) → ((q : List ℕ) → P q → Q q) → IsLeft P name rest → IsLeft Q name rest
left_still P Q name rest still left = (
  λ q dir. elim (left.0 q dir) [
    | inl has ↦ inl (still q has)
    | inr there ↦ inr there
  ],
  left.1,
)

pub left_last : (P : List ℕ → Type 0) (name rest : List ℕ) → IsLeft P name rest → ((q : List ℕ) → IsDirectoryOf rest q → P q) → (q : List ℕ) → IsDirectoryOf name q → P q
left_last P name rest left all q dir =
    elim (left.0 q dir) [
      | inl has ↦ has
      | inr there ↦ all q there
    ]

-- the longest directory that has an entry is marked
pub left_marked : (P : List ℕ → Type 0) (name rest directory : List ℕ) → IsLeft P name rest → IsLongestDirectory rest directory → P directory → ((q : List ℕ) → IsDirectoryOf directory q → P q)
    → (q : List ℕ) → IsDirectoryOf name q → P q
left_marked P name rest directory left is here above = left_last P name directory (left_next P name rest directory left is here) above

-- ---- the map

apart : (bs cs ks : List ℕ) → bytes_eq bs cs ≡ false → bytes_eq bs ks ≡ true → bytes_eq cs ks ≡ false
apart bs cs ks n y = nat_list_eq_equiv.symm cs ks ∙ sym (nat_list_eq_equiv.congr bs ks cs y) ∙ n

other_entries : {K X : Type 0} (eq : K → K → Bool) (test : K → Bool) (old new : List (K × X)) → KeepsOthers eq test old new → (other : K → Bool) → IsKeyTest eq other → AreApart test other → lookup other new ≡ lookup other old
unfolding KeepsOthers
other_entries eq test old new h = h

-- an insertion, by the bytes of its key
pub updated : {Y S : Type 0} (key : String Y) (m n : IndexMap (String Y) Bool S) (w : Option Bool) → Updates string_eq m n key w
    → (cs : List ℕ) → entry_of n cs ≡ cond (bytes_eq (string_bytes key) cs) w (entry_of m cs)
updated key m n w h cs =
    elim (cases_Bool (bytes_eq (string_bytes key) cs)) [
      | inl y ↦ subst (λ l. entry_of n l ≡ w) ((bytes_eq-Decides (string_bytes key) cs).0 y) h.1 ∙ sym (cond-true (bytes_eq (string_bytes key) cs) w (entry_of m cs) y)
      | inr e ↦ other_entries _ _ _ _ h.3 _ (λ x y. nat_list_eq_equiv.congr cs (string_bytes x) (string_bytes y)) (λ k. apart (string_bytes key) cs (string_bytes k) e)
          ∙ sym (cond-false (bytes_eq (string_bytes key) cs) w (entry_of m cs) e)
    ]

-- the entry of a name, as a contract sees it
pub entry_same : {Y : Type 0} (name : List ℕ) (es : List (String Y × Bool)) → lookup (bytes_eq name) (map (λ entry. (string_bytes entry.0, entry.1)) es) ≡ lookup (λ key. bytes_eq name (string_bytes key)) es
entry_same name [] = refl
entry_same name (e ∷ es) = ap (λ o. cond (bytes_eq name (string_bytes e.0)) (Some e.1) o) (entry_same name es)

-- ---- entries

some_true : (o : Option Bool) → is_name o ≡ true → o ≡ Some true
some_true None e = cc
some_true (Some b) e = ap Some e

name_of_some : (o : Option Bool) (b : Bool) → o ≡ Some b → is_name o ≡ b
name_of_some o b e = ap is_name e

true_not_false : (o : Option Bool) → o ≡ Some true → o ≡ Some false → ⊥
true_not_false o t f = both_ways true (sym (ap is_name t) ∙ ap is_name f) refl

none_not_some : (o : Option Bool) (b : Bool) → o ≡ None → o ≡ Some b → ⊥
none_not_some o b n s = both_ways true (sym (ap is_some s) ∙ ap is_some n) refl

-- ---- what a name without an entry is clear of

pub clear_new : (entry : List ℕ → Option Bool) (name : List ℕ) → IsUnmarked entry name → is_name (entry name) ≡ false
clear_new entry name free = ap is_name free.0

pub clear_above : (entry : List ℕ → Option Bool) (name : List ℕ) → IsUnmarked entry name → (directory : List ℕ) → IsDirectoryOf name directory → is_name (entry directory) ≡ false
clear_above entry name free directory dir = false_from_ne_true (is_name (entry directory)) (λ e. free.1 (directory, dir, e))

pub clear_below : (c : Bool) (entry : List ℕ → Option Bool) (name : List ℕ) → IsTable c entry → IsUnmarked entry name → (other : List ℕ) → IsDirectoryOf other name → is_name (entry other) ≡ false
clear_below c entry name table free other dir =
    false_from_ne_true (is_name (entry other)) (λ e. none_not_some (entry name) false free.0 (table.marked other name dir (some_true (entry other) e)))

-- a name that is clear of the claimed ones has no entry
pub unmarked : (entry : List ℕ → Option Bool) (name : List ℕ) → IsTable false entry → is_name (entry name) ≡ false
    → ((directory : List ℕ) → IsDirectoryOf name directory → is_name (entry directory) ≡ false)
    → ((other : List ℕ) → IsDirectoryOf other name → is_name (entry other) ≡ false) → IsUnmarked entry name
unmarked entry name table new above below = (
  none (entry name) new (λ e. let found = table.needed refl name e in both_ways (is_name (entry found.0)) (below found.0 found.1) (ap is_name found.2)),
  λ claimed. both_ways (is_name (entry claimed.0)) (above claimed.0 claimed.1) claimed.2,
)
  where
    none : (o : Option Bool) → is_name o ≡ false → (o ≡ Some false → ⊥) → o ≡ None
    none None e other = refl
    none (Some b) e other = absurd (other (ap Some e))

-- ---- what is claimed after a claim

apart_from : (name q : List ℕ) → (name ≡ q → ⊥) → bytes_eq name q ≡ false
apart_from name q differs = false_from_ne_true (bytes_eq name q) (λ e. differs ((bytes_eq-Decides name q).0 e))

directory_apart : (name directory : List ℕ) → IsDirectoryOf name directory → bytes_eq name directory ≡ false
directory_apart name directory dir = apart_from name directory (λ same. not_own name (subst (IsDirectoryOf name) (sym same) dir))

pub marked_has : (old new : List ℕ → Option Bool) (name : List ℕ) → IsUnmarked old name → MarksSome old new name → (q : List ℕ) → is_name (new q) ≡ is_name (old q)
marked_has old new name free marks q =
    elim (marks q) [
      | inl same ↦ ap is_name same
      | inr there ↦ ap is_name there.1 ∙ sym (clear_above old name free q there.0)
    ]

or_none : (b : Bool) → b ≡ (b || false)
or_none true = refl
or_none false = refl

pub added_has : (old new : List ℕ → Option Bool) (name : List ℕ) → IsUnmarked old name → IsAdded old new name → (q : List ℕ) → is_name (new q) ≡ (is_name (old q) || bytes_eq name q)
added_has old new name free added q =
    elim (cases_Bool (bytes_eq name q)) [
      | inl y ↦ subst (λ l. is_name (new l) ≡ true) ((bytes_eq-Decides name q).0 y) (ap is_name added.own) ∙ sym (or_right (is_name (old q)) (bytes_eq name q) y)
      | inr n ↦ same q n ∙ or_none (is_name (old q)) ∙ ap (λ b. is_name (old q) || b) (sym n)
    ]
  where
    same : (q : List ℕ) → bytes_eq name q ≡ false → is_name (new q) ≡ is_name (old q)
    same q n = elim (added.others q n) [
      | inl kept ↦ ap is_name kept
      | inr there ↦ ap is_name there.1 ∙ sym (clear_above old name free q there.0)
    ]

-- ---- the table after a claim

pub marked_table : (c : Bool) (old new : List ℕ → Option Bool) (name : List ℕ) → IsTable c old → MarksSome old new name → IsTable true new
marked_table c old new name table marks = record {
  marked = λ n d dir is. elim (marks n) [
    | inl same ↦ still d (table.marked n d dir (sym same ∙ is))
    | inr there ↦ absurd (true_not_false (new n) is there.1)
  ];
  needed = λ e. absurd (both_ways true e refl);
}
  where
    still : (d : List ℕ) → old d ≡ Some false → new d ≡ Some false
    still d was = elim (marks d) [
      | inl same ↦ same ∙ was
      | inr there ↦ there.1
    ]

pub added_table : (c : Bool) (old new : List ℕ → Option Bool) (name : List ℕ) → IsTable c old → IsUnmarked old name → IsAdded old new name → IsTable c new
added_table c old new name table free added = record {
  marked = λ n d dir is. elim (cases_Bool (bytes_eq name n)) [
    | inl y ↦ added.directories d (subst (λ l. IsDirectoryOf l d) (sym ((bytes_eq-Decides name n).0 y)) dir)
    | inr e ↦ elim (added.others n e) [
      | inl same ↦ still d (table.marked n d dir (sym same ∙ is))
      | inr there ↦ absurd (true_not_false (new n) is there.1)
    ]
  ];
  needed = λ usable d is. elim (cases_Bool (bytes_eq name d)) [
    | inl y ↦ absurd (true_not_false (new d) (subst (λ l. new l ≡ Some true) ((bytes_eq-Decides name d).0 y) added.own) is)
    | inr e ↦ elim (added.others d e) [
      | inl same ↦ (let found = table.needed usable d (sym same ∙ is) in (found.0, found.1, claimed found.0 found.2))
      | inr there ↦ (name, there.0, added.own)
    ]
  ];
}
  where
    still : (d : List ℕ) → old d ≡ Some false → new d ≡ Some false
    still d was = elim (cases_Bool (bytes_eq name d)) [
      | inl y ↦ absurd (none_not_some (old name) false free.0 (subst (λ l. old l ≡ Some false) (sym ((bytes_eq-Decides name d).0 y)) was))
      | inr e ↦ elim (added.others d e) [
        | inl same ↦ same ∙ was
        | inr there ↦ there.1
      ]
    ]

    claimed : (n : List ℕ) → old n ≡ Some true → new n ≡ Some true
    claimed n was = elim (cases_Bool (bytes_eq name n)) [
      | inl y ↦ subst (λ l. new l ≡ Some true) ((bytes_eq-Decides name n).0 y) added.own
      | inr e ↦ elim (added.others n e) [
        | inl same ↦ same ∙ was
        | inr there ↦ absurd (both_ways (is_name (old n)) (clear_above old name free n there.0) (ap is_name was))
      ]
    ]

-- ---- what the longest directory with an entry says

pub found_tells : (entry : List ℕ → Option Bool) (name rest directory : List ℕ) (is : Bool) → MarksAll entry → IsLeft (λ q. is_name (entry q) ≡ false) name rest → IsLongestDirectory rest directory → entry directory ≡ Some is
    → IsTrue is ↔ HasClaimedAbove entry name
found_tells entry name rest directory true all left longest found = (λ _. (directory, left.1 directory longest.is, ap is_name found), λ _. refl)
found_tells entry name rest directory false all left longest found = (
  λ e. cc,
  λ claimed.
      let free = left_marked (λ q. is_name (entry q) ≡ false) name rest directory left longest (ap is_name found) (λ q dir. ap is_name (all directory q dir found)) claimed.0 claimed.1 in
      absurd (both_ways (is_name (entry claimed.0)) free claimed.2),
)

-- ---- directories that get their entries

-- what is above a marked directory is marked, as long as no claim failed
pub marks_all : (entry : List ℕ → Option Bool) → IsTable false entry → MarksAll entry
marks_all entry table below above dir e =
    let found = table.needed refl below e in table.marked found.0 above (directory_above found.0 below above found.1 dir) found.2

still_marked : (mid new : List ℕ → Option Bool) (directory : List ℕ) → ((q : List ℕ) → new q ≡ cond (bytes_eq directory q) (Some false) (mid q)) → (q : List ℕ) → mid q ≡ Some false → new q ≡ Some false
still_marked mid new directory put q was =
    elim (cases_Bool (bytes_eq directory q)) [
      | inl y ↦ put q ∙ cond-true (bytes_eq directory q) (Some false) (mid q) y
      | inr n ↦ put q ∙ cond-false (bytes_eq directory q) (Some false) (mid q) n ∙ was
    ]

-- what marks the directories of a name keeps, while those of what is left have their old entries
pub record IsMarking (old mid : List ℕ → Option Bool) (name rest : List ℕ) : Type 0 where
  pub some : MarksSome old mid name
  pub left : IsLeft (λ q. mid q ≡ Some false) name rest
  pub same : (q : List ℕ) → IsDirectoryOf rest q → mid q ≡ old q

pub marking_first : (old : List ℕ → Option Bool) (name : List ℕ) → IsMarking old old name name
marking_first old name = record {
  some = λ q. inl refl;
  left = left_first (λ q. old q ≡ Some false) name;
  same = λ q dir. refl;
}

-- one more entry of a directory
pub marking_next : (old mid new : List ℕ → Option Bool) (name rest directory : List ℕ) → IsMarking old mid name rest → IsLongestDirectory rest directory
    → ((q : List ℕ) → new q ≡ cond (bytes_eq directory q) (Some false) (mid q)) → IsMarking old new name directory
marking_next old mid new name rest directory marking is put = record {
  some = λ q. elim (cases_Bool (bytes_eq directory q)) [
    | inl y ↦ inr (subst (IsDirectoryOf name) ((bytes_eq-Decides directory q).0 y) (marking.left.1 directory is.is), put q ∙ cond-true (bytes_eq directory q) (Some false) (mid q) y)
    | inr n ↦ elim (marking.some q) [
      | inl same ↦ inl (put q ∙ cond-false (bytes_eq directory q) (Some false) (mid q) n ∙ same)
      | inr there ↦ inr (there.0, put q ∙ cond-false (bytes_eq directory q) (Some false) (mid q) n ∙ there.1)
    ]
  ];
  left = left_next (λ q. new q ≡ Some false) name rest directory (left_still (λ q. mid q ≡ Some false) (λ q. new q ≡ Some false) name rest (still_marked mid new directory put) marking.left) is
      (put directory ∙ cond-true (bytes_eq directory directory) (Some false) (mid directory) ((bytes_eq-Decides directory directory).1 refl));
  same = λ q dir. put q ∙ cond-false (bytes_eq directory q) (Some false) (mid q) (directory_apart directory q dir) ∙ marking.same q (directory_above rest directory q is.is dir);
}

-- a directory that was marked
pub marking_met : (old mid : List ℕ → Option Bool) (name rest directory : List ℕ) → MarksAll old → IsMarking old mid name rest → IsLongestDirectory rest directory → mid directory ≡ Some false
    → (q : List ℕ) → IsDirectoryOf name q → mid q ≡ Some false
marking_met old mid name rest directory all marking is here =
    left_marked (λ q. mid q ≡ Some false) name rest directory marking.left is here
    (λ q dir. marking.same q (directory_above rest directory q is.is dir) ∙ all directory q dir (sym (marking.same directory is.is) ∙ here))

pub added_from : (old mid new : List ℕ → Option Bool) (name : List ℕ) → MarksSome old mid name → ((q : List ℕ) → IsDirectoryOf name q → mid q ≡ Some false)
    → ((q : List ℕ) → new q ≡ cond (bytes_eq name q) (Some true) (mid q)) → IsAdded old new name
added_from old mid new name marks all put = record {
  own = put name ∙ cond-true (bytes_eq name name) (Some true) (mid name) ((bytes_eq-Decides name name).1 refl);
  directories = λ d dir. put d ∙ cond-false (bytes_eq name d) (Some true) (mid d) (directory_apart name d dir) ∙ all d dir;
  others = λ q n. elim (marks q) [
    | inl same ↦ inl (put q ∙ cond-false (bytes_eq name q) (Some true) (mid q) n ∙ same)
    | inr there ↦ inr (there.0, put q ∙ cond-false (bytes_eq name q) (Some true) (mid q) n ∙ there.1)
  ];
}

pub marks_same : (old mid new : List ℕ → Option Bool) (name : List ℕ) → MarksSome old mid name → ((q : List ℕ) → new q ≡ mid q) → MarksSome old new name
marks_same old mid new name marks put q =
    elim (marks q) [
      | inl same ↦ inl (put q ∙ same)
      | inr there ↦ inr (there.0, put q ∙ there.1)
    ]

-- ---- the same as contracts see it

module _ {Y S : Type 0} (v : ClaimsValue) (m : IndexMap (String Y) Bool S) (c : Bool) (same : v ≡ record { table = table_of m; is_closed = c }) where
  seen : (q : List ℕ) → is_claimed v q ≡ is_name (entry_of m q)
  seen q = ap (λ x. is_claimed x q) same ∙ ap is_name (entry_same q m.entries)

  pub clear_seen : (name : List ℕ) → IsTable c (entry_of m) → IsUnmarked (entry_of m) name → IsClear v name
  clear_seen name table free = record {
    new = seen name ∙ clear_new (entry_of m) name free;
    above = λ d dir. seen d ∙ clear_above (entry_of m) name free d dir;
    below = λ o dir. seen o ∙ clear_below c (entry_of m) name table free o dir;
  }

  pub unmarked_seen : (name : List ℕ) → IsTable c (entry_of m) → v.is_closed ≡ false → IsClear v name → IsUnmarked (entry_of m) name
  unmarked_seen name table usable clear =
      unmarked (entry_of m) name (subst (λ b. IsTable b (entry_of m)) (sym (ap (λ x. x.is_closed) same) ∙ usable) table)
      (sym (seen name) ∙ clear.new) (λ d dir. sym (seen d) ∙ clear.above d dir) (λ o dir. sym (seen o) ∙ clear.below o dir)

  pub added_seen : (n : IndexMap (String Y) Bool S) (name : List ℕ) → IsUnmarked (entry_of m) name → IsAdded (entry_of m) (entry_of n) name
      → (q : List ℕ) → is_name (lookup (bytes_eq q) (table_of n)) ≡ (is_claimed v q || bytes_eq name q)
  added_seen n name free added q =
      ap is_name (entry_same q n.entries) ∙ added_has (entry_of m) (entry_of n) name free added q ∙ ap (λ b. b || bytes_eq name q) (sym (seen q))

  pub marked_seen : (n : IndexMap (String Y) Bool S) (name : List ℕ) → IsUnmarked (entry_of m) name → MarksSome (entry_of m) (entry_of n) name
      → (q : List ℕ) → is_name (lookup (bytes_eq q) (table_of n)) ≡ is_claimed v q
  marked_seen n name free marks q =
      ap is_name (entry_same q n.entries) ∙ marked_has (entry_of m) (entry_of n) name free marks q ∙ sym (seen q)
