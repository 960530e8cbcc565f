-- What is read of lines that a crash left.
use Rattle.std.proofs.Common.{◌≡◌, ◌≢◌, ◌⊎◌, inl, inr, ◌≤◌, ℕ, suc, List, [], ◌∷◌, ◌++◌, length, take, refl, sym, ◌∙◌, ap, subst, arith, append_assoc}
use Rattle.std.proofs.lemmas.List.{append-nil}
use Rattle.std.proofs.lemmas.Bool.{cases_eq}
use Rattle.std.proofs.lemmas.Bool.Decides.{nat_tests}
use Rattle.disk_folder.specs.Disks.{Holed}
use Rattle.entry_lines.specs.Lines.{ArePlain, AreEntries, text, lines_from, recovered, ReadsFront}

at_zero : (begun xs : List ℕ) → lines_from begun (0 ∷ xs) ≡ []
at_zero begun xs = refl

at_end : (begun xs : List ℕ) → lines_from begun (10 ∷ xs) ≡ begun ∷ lines_from [] xs
at_end begun xs = refl

pub at_plain : (begun xs : List ℕ) (x : ℕ) → x ≢ 0 → x ≢ 10 → lines_from begun (x ∷ xs) ≡ lines_from (begun ++ x ∷ []) xs
at_plain begun xs x nonzero no_feed = grind (arith, nat_tests)

-- a whole line is read as its entry
pub whole_line : (begun e rest : List ℕ) → ArePlain e → lines_from begun (e ++ 10 ∷ rest) ≡ (begun ++ e) ∷ lines_from [] rest
whole_line begun [] rest plain = ap (λ (l : List ℕ). l ∷ lines_from [] rest) (sym (append-nil begun))
whole_line begun (x ∷ e) rest plain =
    at_plain begun (e ++ 10 ∷ rest) x plain.0 plain.1 ∙ whole_line (begun ++ x ∷ []) e rest plain.2
    ∙ ap (λ (l : List ℕ). l ∷ lines_from [] rest) (append_assoc begun (x ∷ []) e)

pub whole_lines : (es : List (List ℕ)) (rest : List ℕ) → AreEntries es → recovered (text es ++ rest) ≡ es ++ recovered rest
whole_lines [] rest entries = refl
whole_lines (e ∷ es) rest entries =
    ap recovered (append_assoc e (10 ∷ text es) rest) ∙ whole_line [] e (text es ++ rest) entries.0
    ∙ ap (λ (l : List (List ℕ)). e ∷ l) (whole_lines es rest entries.1)

-- of a line that a crash left nothing is read, or it is whole and the rest is what a crash left of the rest

abbrev Reads : List ℕ → List ℕ → List ℕ → List ℕ → Type 0
Reads begun e rest left = (lines_from begun left ≡ []) ⊎ ((behind : List ℕ) × Holed rest behind × (lines_from begun left ≡ (begun ++ e) ∷ lines_from [] behind))

torn_line : (begun e rest left : List ℕ) → ArePlain e → Holed (e ++ 10 ∷ rest) left → Reads begun e rest left
torn_line begun e rest [] plain holed = inl refl
torn_line begun [] rest (y ∷ left) plain (inl same, holed) =
    inr (left, holed, ap (λ (b : ℕ). lines_from begun (b ∷ left)) same ∙ ap (λ (l : List ℕ). l ∷ lines_from [] left) (sym (append-nil begun)))
torn_line begun [] rest (y ∷ left) plain (inr none, holed) = inl (ap (λ (b : ℕ). lines_from begun (b ∷ left)) none)
torn_line begun (x ∷ e) rest (y ∷ left) plain (inr none, holed) = inl (ap (λ (b : ℕ). lines_from begun (b ∷ left)) none)
torn_line begun (x ∷ e) rest (y ∷ left) plain (inl same, holed) =
    let step : lines_from begun (y ∷ left) ≡ lines_from (begun ++ x ∷ []) left =
    ap (λ (b : ℕ). lines_from begun (b ∷ left)) same ∙ at_plain begun left x plain.0 plain.1 in
    elim (torn_line (begun ++ x ∷ []) e rest left plain.2 holed) [
      | inl nothing ↦ inl (step ∙ nothing)
      | inr more ↦ inr (more.0, more.1, step ∙ more.2 ∙ ap (λ (l : List ℕ). l ∷ lines_from [] more.0) (append_assoc begun (x ∷ []) e))
    ]

pub torn_lines : (es : List (List ℕ)) (left : List ℕ) → AreEntries es → Holed (text es) left → (n : ℕ) × (n ≤ length es) × (recovered left ≡ take n es)
torn_lines [] [] entries holed = (0, omega arith, refl)
torn_lines [] (y ∷ left) entries holed = absurd holed
torn_lines (e ∷ es) left entries holed = elim (torn_line [] e (text es) left entries.0 holed) [
  | inl nothing ↦ (0, omega arith, nothing)
  | inr more ↦ let rest = torn_lines es more.0 entries.1 more.1 in (suc rest.0, omega (arith, rest.1), more.2 ∙ ap (λ (l : List (List ℕ)). e ∷ l) rest.2)
]

pub reads_front : ReadsFront
reads_front done added bytes are_done are_added torn =
    let rest = torn_lines added torn.rest are_added torn.holed in
    record {
      count = rest.0;
      no_more = rest.1;
      is = ap recovered torn.split ∙ whole_lines done torn.rest are_done ∙ ap (λ (l : List (List ℕ)). done ++ l) rest.2;
    }

-- ---- entries that are added

pub text-append : (es fs : List (List ℕ)) → text (es ++ fs) ≡ text es ++ text fs
text-append [] fs = refl
text-append (e ∷ es) fs = ap (λ (l : List ℕ). e ++ 10 ∷ l) (text-append es fs) ∙ sym (append_assoc e (10 ∷ text es) (text fs))

pub entries-append : (es fs : List (List ℕ)) → AreEntries es → AreEntries fs → AreEntries (es ++ fs)
entries-append [] fs a b = b
entries-append (e ∷ es) fs a b = (a.0, entries-append es fs a.1 b)

-- what is read are entries
pub are_plain-append : (xs ys : List ℕ) → ArePlain xs → ArePlain ys → ArePlain (xs ++ ys)
are_plain-append [] ys a b = b
are_plain-append (x ∷ xs) ys a b = (a.0, a.1, are_plain-append xs ys a.2 b)

-- what is read of bytes are entries
pub are_lines : (begun bytes : List ℕ) → ArePlain begun → AreEntries (lines_from begun bytes)
are_lines begun [] plain = tt
are_lines begun (x ∷ bytes) plain = elim (cases_eq x 0) [
  | inl none ↦ subst (λ (b : ℕ). AreEntries (lines_from begun (b ∷ bytes))) (sym none) tt
  | inr nonzero ↦ elim (cases_eq x 10) [
    | inl feed ↦ subst (λ (b : ℕ). AreEntries (lines_from begun (b ∷ bytes))) (sym feed) (plain, are_lines [] bytes tt)
    | inr no_feed ↦ subst AreEntries (sym (at_plain begun bytes x nonzero no_feed)) (are_lines (begun ++ x ∷ []) bytes (are_plain-append begun (x ∷ []) plain (nonzero, no_feed, tt)))
  ]
]

pub are_recovered : (bytes : List ℕ) → AreEntries (recovered bytes)
are_recovered bytes = are_lines [] bytes tt

-- what is read of the lines of entries are these
pub read_again : (es : List (List ℕ)) → AreEntries es → recovered (text es) ≡ es
read_again es entries = ap recovered (sym (append-nil (text es))) ∙ whole_lines es [] entries ∙ append-nil es

-- what a crash may leave of few lines it may leave of more
pub holed_more : (bytes more left : List ℕ) → Holed bytes left → Holed (bytes ++ more) left
holed_more bytes more [] holed = tt
holed_more [] more (y ∷ left) holed = absurd holed
holed_more (x ∷ bytes) more (y ∷ left) holed = (holed.0, holed_more bytes more left holed.1)
