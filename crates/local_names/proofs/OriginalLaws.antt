-- Names that leave those of bodies as they came free: they end otherwise, since a number ends in a digit, and an ending in no `g`.
use Rattle.std.proofs.Common.{zero, suc, ◌≡◌, ◌≢◌, ℕ, ◌-◌, ◌<◌, ◌≤◌, Bool, true, false, ◌&&◌, List, [], ◌∷◌, ◌++◌, length, take, map, get_or, codes, All, Contains, sym, refl, ap, ◌∙◌, subst, inl, inr, arith, append_assoc}
use Rattle.std.proofs.lemmas.Bool.{cond_both, cond-true, cond-false, both_ways, cases_Bool, false_from_ne_true}
use Rattle.std.proofs.lemmas.Bool.Decides.{Decides-eqb}
use Rattle.std.proofs.lemmas.List.{get_or_read, append-nil, take_at}
use Rattle.std.proofs.lemmas.List.Elements.{All-nil, All-cons, All-head, All-tail, All-map}
use Rattle.std.proofs.lemmas.Slice.Eq.{ends_is}
use Rattle.std.specs.Fmt.{decimal}
use Rattle.address.specs.Address.{AddressText}
use Rattle.kept_bodies.specs.declared.body_kind.BodyKind.{BodyKind}
use Rattle.kept_bodies.specs.declared.body_kind.BodyKind.TheVariants.{Html, Sheet, Other}
use Rattle.local_names.specs.declared.plain_name.TheConstants.{MAX_SEGMENT, ORIGINAL}
use Rattle.local_names.specs.declared.rules.NameRules.{NameRules}
use Rattle.local_names.specs.PlainNames.{Unit, slash, segment_within, segment_with, local_segment, dir_segment, plain_name_within, plain_name_with, is_original, plain_name_of}
use Rattle.local_names.specs.Endings.{shows_kind, ended_name, ended_names, ending_of, stem_of}
use Rattle.local_names.specs.Names.{numbered_by, IsNamingBy}
use Rattle.local_names.specs.inner.Units.{started, is_new, below, below_within}
use Rattle.local_names.proofs.EndingLaws.{NoSlash, final, final-append, ending_is}
use Rattle.local_names.proofs.NamingLaws.{numbered_name-zero, numbered_name-suc}
use Rattle.local_names.proofs.SegmentLaws.{after_slash, IsDigit, decimal_present, decimal_digits}

-- the name is that of no body as it came
abbrev pub EndsOtherwise : List ℕ → Type 0
EndsOtherwise name = (front : List ℕ) → name ≢ front ++ ORIGINAL.now

from_final : (name : List ℕ) → final name ≢ 103 → EndsOtherwise name
from_final name other front is = other (ap final is ∙ final-append front 46 (codes "orig"))

from_test : (name : List ℕ) → is_original name ≡ false → EndsOtherwise name
from_test name off front is = both_ways (is_original name) off ((ends_is Decides-eqb name ORIGINAL.now (is_original name) refl).1 front is)

-- ---- plain names, and their directories

freed : (has original : Bool) → has ≡ true → (has && original) ≡ false → original ≡ false
freed true original on off = off
freed false original on off = cc

pub dir_ends : (has is_first : Bool) (units : List Unit) → has ≡ true → EndsOtherwise (dir_segment has units is_first)
dir_ends has is_first units on =
    let own = local_segment is_first units in
    let added = segment_with (codes ".1") is_first units in
    cond_both (has && is_original own) added own EndsOtherwise
    (λ _. from_final added (λ g. (let one : 49 ≡ 103 = sym (final-append (segment_within is_first 198 units) 46 (codes "1")) ∙ g in omega (arith, one))))
    (λ off. from_test own (freed has (is_original own) on off))

plain_ends : (rules : NameRules) (page : AddressText) → rules.has_originals ≡ true → EndsOtherwise (plain_name_of rules page)
plain_ends rules page on =
    let plain = plain_name_within MAX_SEGMENT rules page in
    cond_both (rules.has_originals && is_original plain) (plain_name_with (codes ".1") rules page) plain EndsOtherwise
    (λ _. from_final (plain_name_with (codes ".1") rules page) (λ g. (let one : 49 ≡ 103 = sym (final-append (plain_name_within 198 rules page) 46 (codes "1")) ∙ g in omega (arith, one))))
    (λ off. from_test plain (freed rules.has_originals (is_original plain) on off))

ended_ends : (rules : NameRules) (kind : BodyKind) (page : AddressText) → rules.has_originals ≡ true → EndsOtherwise (ended_name rules kind page)
ended_ends rules Html page on =
    let plain = plain_name_of rules page in
    let added = plain_name_with (codes ".html") rules page in
    cond_both (shows_kind Html plain) plain added EndsOtherwise (λ _. plain_ends rules page on)
    (λ _. from_final added (λ g. (let l : 108 ≡ 103 = sym (final-append (plain_name_within 195 rules page) 46 (codes "html")) ∙ g in omega (arith, l))))
ended_ends rules Sheet page on =
    let plain = plain_name_of rules page in
    let added = plain_name_with (codes ".css") rules page in
    cond_both (shows_kind Sheet plain) plain added EndsOtherwise (λ _. plain_ends rules page on)
    (λ _. from_final added (λ g. (let s : 115 ≡ 103 = sym (final-append (plain_name_within 196 rules page) 46 (codes "css")) ∙ g in omega (arith, s))))
ended_ends rules Other page on = plain_ends rules page on

pub all_plain_end : (rules : NameRules) (pages : List AddressText) → rules.has_originals ≡ true → All EndsOtherwise (map (plain_name_of rules) pages)
all_plain_end rules pages on = All-map EndsOtherwise (plain_name_of rules) pages (λ i page below. plain_ends rules (get_or pages i page) on)

pub all_ended_end : (rules : NameRules) (pages : List AddressText) (kinds : List BodyKind) → rules.has_originals ≡ true → All EndsOtherwise (ended_names rules pages kinds)
all_ended_end rules [] kinds on = All-nil EndsOtherwise
all_ended_end rules (page ∷ pages) [] on = All-cons EndsOtherwise (ended_name rules Other page) (ended_names rules pages []) (ended_ends rules Other page on) (all_ended_end rules pages [] on)
all_ended_end rules (page ∷ pages) (kind ∷ kinds) on = All-cons EndsOtherwise (ended_name rules kind page) (ended_names rules pages kinds) (ended_ends rules kind page on) (all_ended_end rules pages kinds on)

-- ---- directories, as the code writes them

-- a slash is in no name's end by which it is that of a body as it came
is_original-below : (xs segment : List ℕ) → is_original (xs ++ slash ∷ segment) ≡ is_original segment
is_original-below xs segment = elim (cases_Bool (is_original segment)) [
  | inl on ↦ (
      let ends = (ends_is Decides-eqb segment ORIGINAL.now (is_original segment) refl).0 on in
      let front = take (length segment - 5) segment in
      (ends_is Decides-eqb whole ORIGINAL.now (is_original whole) refl).1 (xs ++ slash ∷ front) (ap (λ s. xs ++ slash ∷ s) ends ∙ sym (append_assoc xs (slash ∷ front) ORIGINAL.now)) ∙ sym on)
  | inr off ↦ false_from_ne_true (is_original whole) (λ on.
      let ends = (ends_is Decides-eqb whole ORIGINAL.now (is_original whole) refl).0 on in
      let cut = after_slash xs segment (take (length whole - 5) whole) ORIGINAL.now ends no_slash in
      both_ways (is_original segment) off ((ends_is Decides-eqb segment ORIGINAL.now (is_original segment) refl).1 cut.0 cut.1)) ∙ sym off
]
  where
    whole : List ℕ
    whole = xs ++ slash ∷ segment

    no_slash : NoSlash ORIGINAL.now
    no_slash = (λ e. omega (arith, e), (λ e. omega (arith, e), (λ e. omega (arith, e), (λ e. omega (arith, e), (λ e. omega (arith, e), tt)))))

is_original-started : (old segment : List ℕ) → is_original (started old ++ segment) ≡ is_original segment
is_original-started [] segment = refl
is_original-started (b ∷ old) segment = ap is_original (append_assoc (b ∷ old) (slash ∷ []) segment) ∙ is_original-below (b ∷ old) segment

-- the name before a segment was added to it
pub front_again : (old : List ℕ) (room : ℕ) (units : List Unit) → take (length old) (below_within room old units) ≡ old
front_again [] room units = refl
front_again (b ∷ old) room units =
    let segment = segment_within false room units in
    ap (take (length (b ∷ old))) (append_assoc (b ∷ old) (slash ∷ []) segment) ∙ take_at (b ∷ old) (slash ∷ segment) (length (b ∷ old)) refl

tested : (old name : List ℕ) (units : List Unit) (has : Bool) → name ≡ below_within MAX_SEGMENT old units → (has && is_original (local_segment (is_new old) units)) ≡ (has && is_original name)
tested old name units has is = ap (λ b. has && b) (sym (is_original-started old (local_segment (is_new old) units)) ∙ ap is_original (sym is))

pub dir_alone : (old name : List ℕ) (units : List Unit) (has : Bool) → name ≡ below_within MAX_SEGMENT old units → (has && is_original name) ≡ false → name ≡ below old (dir_segment has units)
dir_alone old name units has is off =
    let own = local_segment (is_new old) units in
    is ∙ ap (λ s. started old ++ s) (sym (cond-false (has && is_original own) (segment_with (codes ".1") (is_new old) units) own (tested old name units has is ∙ off)))

pub dir_with_one : (old name : List ℕ) (units : List Unit) (has : Bool) → name ≡ below_within MAX_SEGMENT old units → (has && is_original name) ≡ true
    → below_within 198 old units ++ codes ".1" ≡ below old (dir_segment has units)
dir_with_one old name units has is on =
    let own = local_segment (is_new old) units in
    append_assoc (started old) (segment_within (is_new old) 198 units) (codes ".1")
    ∙ ap (λ s. started old ++ s) (sym (cond-true (has && is_original own) (segment_with (codes ".1") (is_new old) units) own (tested old name units has is ∙ on)))

-- ---- numbered names

final_digit : (ds : List ℕ) → 1 ≤ length ds → All IsDigit ds → final ds ≤ 57
final_digit [] some all = absurd (omega arith)
final_digit (d ∷ []) some all = (All-head IsDigit d [] all).1
final_digit (d ∷ e ∷ ds) some all = final_digit (e ∷ ds) (omega arith) (All-tail IsDigit d (e ∷ ds) all)

dot_digit : (ds : List ℕ) → 1 ≤ length ds → All IsDigit ds → final (46 ∷ ds) ≤ 57
dot_digit [] some all = absurd (omega arith)
dot_digit (d ∷ ds) some all = final_digit (d ∷ ds) some all

-- a number, and an ending that has no `g` at its end or is none
after_number : (digits ending : List ℕ) → 1 ≤ length digits → All IsDigit digits → final ending ≢ 103 → final (46 ∷ (digits ++ ending)) ≢ 103
after_number digits [] some all other g =
    let low = dot_digit digits some all in
    let last : final (46 ∷ digits) ≡ 103 = ap (λ ds. final (46 ∷ ds)) (sym (append-nil digits)) ∙ g in
    omega (arith, low, last)
after_number digits (b ∷ ending) some all other g = other (sym (final-append (46 ∷ digits) b ending) ∙ g)

ending_final : (has : Bool) (name : List ℕ) → final (ending_of has name) ≢ 103
ending_final true name = (ending_is name).no_g
ending_final false name = λ e. (let none : 0 ≡ 103 = e in omega (arith, none))

numbered_ends : (has : Bool) (own : List ℕ) (n : ℕ) → EndsOtherwise own → EndsOtherwise (numbered_by has own n)
numbered_ends has own zero ends = subst EndsOtherwise (sym (numbered_name-zero has own)) ends
numbered_ends has own (suc n) ends =
    let digits = decimal (suc n) in
    let ending = ending_of has own in
    let at = after_number digits ending (decimal_present (suc n)) (decimal_digits (suc n)) (ending_final has own) in
    subst EndsOtherwise (sym (numbered_name-suc has own n))
    (from_final (stem_of has own ++ 46 ∷ (digits ++ ending)) (λ g. at (sym (final-append (stem_of has own) 46 (digits ++ ending)) ∙ g)))

-- ---- all names of a list

pub no_names : (has : Bool) (plain names : List (List ℕ)) → IsNamingBy has plain names → All EndsOtherwise plain → (name : List ℕ) → ¬ Contains names (name ++ ORIGINAL.now)
no_names has plain names naming ends name (i, below, is) =
    let count = naming.count in
    let within : i < length plain = omega (arith, below, count) in
    let at = naming.each i within in
    let own = get_or plain i [] in
    numbered_ends has own at.number (ends i [] within) name (sym at.is ∙ sym (get_or_read names i (name ++ ORIGINAL.now) below (sym is) []))
