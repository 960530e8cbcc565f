-- A journal's text has no zero, so that what is before the first zero of what a crash left is a front of it.
use Rattle.std.proofs.Common.{◌≡◌, ◌≢◌, ◌∙◌, ◌<◌, ◌/◌, ◌%◌, ◌==◌, ◌⊎◌, inl, inr, ℕ, zero, suc, Bool, true, false, List, [], ◌∷◌, ◌++◌, length, take, drop, get_or, refl, sym, ap, subst, arith}
use Rattle.std.specs.Prelude.{All, if◌then◌else◌}
use Rattle.std.specs.Int.{byte_at, bytes_high_first, to_be_bytes, w32}
use Rattle.std.proofs.lemmas.Bool.{eq-eqb, eqb-true}
use Rattle.std.proofs.lemmas.List.Elements.{All-head, All-tail}
use Rattle.address.specs.Address.{AddressText, IsAddress, IsAddressByte}
use Rattle.disk_folder.specs.Disks.{Holed}
use Rattle.entry_lines.specs.Fields.{fields_text}
use Rattle.entry_lines.specs.Lines.{ArePlain}
use Rattle.entry_lines.proofs.FieldLaws.{plain_fields}
use Rattle.hex.specs.Hex.{encode_lower, encode_with, lower_digits}
use Rattle.memchr.specs.Find.{Nowhere, Passes, is_byte}
use Rattle.mirror_index.specs.Cuts.{Lacks}
use Rattle.mirror_index.specs.Entries.{Text, check_of, checked_text, entry_fields}
use Rattle.mirror_index.proofs.CutLaws.{found_at, found_nowhere, lacks-append, lacks-take, lacks_by}
use Rattle.mirror_upkeep.specs.Journals.{Answer, Begins, Page, Said, before_zero, first_line, lines, said_line, starts_text, version}
use Rattle.sha2.specs.Sha256.{digest_bytes, final_hash, initial_hash_256, sha256}

-- ---- digests are bytes

abbrev AreBytes : List ℕ → Type 0
AreBytes [] = Unit {0}
AreBytes (x ∷ xs) = (x < 256) × AreBytes xs

bytes-append : (xs ys : List ℕ) → AreBytes xs → AreBytes ys → AreBytes (xs ++ ys)
bytes-append [] ys one other = other
bytes-append (x ∷ xs) ys one other = (one.0, bytes-append xs ys one.1 other)

small : (i n : ℕ) → byte_at i n < 256
small zero n = grind arith
small (suc i) n = grind arith

high_first : (k n : ℕ) → AreBytes (bytes_high_first k n)
high_first zero n = tt
high_first (suc k) n = (small k n, high_first k n)

digest_small : (h : List ℕ) (n : ℕ) → AreBytes (digest_bytes h n)
unfolding digest_bytes
digest_small h zero = tt
digest_small h (suc n) = bytes-append (digest_bytes h n) (to_be_bytes w32 (get_or h n 0)) (digest_small h n) (high_first 4 (get_or h n 0))

sha_small : (m : List ℕ) → AreBytes (sha256 m)
unfolding sha256
sha_small m = digest_small (final_hash initial_hash_256 m) 8

-- ---- nothing of a journal is a zero

some_at : (xs : List ℕ) (k : ℕ) → Lacks 0 xs → k < length xs → get_or xs k 0 ≢ 0
some_at [] k none within = absurd (omega arith)
some_at (x ∷ xs) zero none within = none.0
some_at (x ∷ xs) (suc k) none within = some_at xs k none.1 (omega arith)

digit : (k : ℕ) → k < 16 → get_or lower_digits k 0 ≢ 0
digit k within = some_at lower_digits k (lacks_by 0 lower_digits refl) within

encoded : (xs : List ℕ) → AreBytes xs → Lacks 0 (encode_lower xs)
unfolding encode_with
encoded [] are = tt
encoded (x ∷ xs) are = let byte = are.0 in (digit (x / 16) (grind arith), (digit (x % 16) (grind arith), encoded xs are.1))

check_some : (text : Text) → Lacks 0 (check_of text)
unfolding check_of
check_some text = lacks-take 0 16 (encode_lower (sha256 text)) (encoded (sha256 text) (sha_small text))

plain_some : (xs : List ℕ) → ArePlain xs → Lacks 0 xs
plain_some [] are = tt
plain_some (x ∷ xs) are = (are.0, plain_some xs are.2)

checked_some : (fields : List Text) → Lacks 0 (checked_text fields)
checked_some fields = lacks-append 0 (fields_text fields) (check_of (fields_text fields)) (plain_some (fields_text fields) (plain_fields fields)) (check_some (fields_text fields))

line_some : (s : Said) → Lacks 0 (said_line s)
line_some (Page e) = checked_some (entry_fields e)
line_some (Answer t) = checked_some (t ∷ [])

lines_some : (said : List Said) → Lacks 0 (lines said [])
lines_some [] = tt
lines_some (s ∷ said) = lacks-append 0 (said_line s) (10 ∷ lines said []) (line_some s) (omega arith, lines_some said)

address_some : (text : List ℕ) → All IsAddressByte text → Lacks 0 text
address_some [] each = tt
address_some (x ∷ xs) each = let byte = All-head IsAddressByte x xs each in (omega (arith, byte.0), address_some xs (All-tail IsAddressByte x xs each))

first_some : (start : AddressText) (others : List AddressText) → IsAddress start → Lacks 0 (first_line start others)
first_some start others is =
    let digits = encode_lower (sha256 (starts_text (start ∷ others))) in
    lacks-append 0 version (start ++ (32 ∷ (digits ++ 10 ∷ []))) (lacks_by 0 version refl)
    (lacks-append 0 start (32 ∷ (digits ++ 10 ∷ [])) (address_some start is.plain)
    (omega arith, lacks-append 0 digits (10 ∷ []) (encoded (sha256 (starts_text (start ∷ others))) (sha_small (starts_text (start ∷ others)))) (omega arith, tt)))

-- ---- what is before the first zero

pub cut_at_zero : (front later : Text) → Lacks 0 front → before_zero (front ++ 0 ∷ later) ≡ front
cut_at_zero [] later none = refl
cut_at_zero (x ∷ front) later none = go (x == 0) refl (cut_at_zero front later none.1)
  where
    go : (b : Bool) → (x == 0) ≡ b → before_zero (front ++ 0 ∷ later) ≡ front → (if b then [] else x ∷ before_zero (front ++ 0 ∷ later)) ≡ x ∷ front
    go true is same = absurd (none.0 (eqb-true x 0 is))
    go false is same = ap (λ (xs : Text). x ∷ xs) same

pub all_before : (xs : Text) → Lacks 0 xs → before_zero xs ≡ xs
all_before [] none = refl
all_before (x ∷ xs) none = go (x == 0) refl (all_before xs none.1)
  where
    go : (b : Bool) → (x == 0) ≡ b → before_zero xs ≡ xs → (if b then [] else x ∷ before_zero xs) ≡ x ∷ xs
    go true is same = absurd (none.0 (eqb-true x 0 is))
    go false is same = ap (λ (ys : Text). x ∷ ys) same

pub found_zero : (xs : Text) (k : ℕ) → k < length xs → Nowhere (Passes (is_byte 0) xs) 0 k → Passes (is_byte 0) xs k → take k xs ≡ before_zero xs
found_zero xs k within before at =
    let found = found_at 0 xs k within before at in
    sym (ap before_zero found.1 ∙ cut_at_zero (take k xs) (drop (suc k) xs) found.0)

pub found_none : (xs : Text) → Nowhere (Passes (is_byte 0) xs) 0 (length xs) → xs ≡ before_zero xs
found_none xs none = sym (all_before xs (found_nowhere 0 xs none))

front_of : (whole bytes : Text) → Lacks 0 whole → Holed whole bytes → Begins whole (before_zero bytes)
front_of whole [] none holed = (whole, refl)
front_of [] (y ∷ ys) none holed = absurd holed
front_of (x ∷ xs) (y ∷ ys) none holed = go (y == 0) refl holed.0 (front_of xs ys none.1 holed.1)
  where
    go : (b : Bool) → (y == 0) ≡ b → (y ≡ x) ⊎ (y ≡ 0) → Begins xs (before_zero ys) → Begins (x ∷ xs) (if b then [] else y ∷ before_zero ys)
    go true is either begins = (x ∷ xs, refl)
    go false is (inl same) begins = (begins.0, (let rest : xs ≡ before_zero ys ++ begins.0 = begins.1 in cc))
    go false is (inr lost) begins = (let yes : (y == 0) ≡ true = eq-eqb y 0 lost in cc)

-- whatever a crash leaves of a journal that isn't synced, before its first zero is a front of it
pub crash_front : (start : AddressText) (others : List AddressText) (first bytes : Text) (said : List Said) → IsAddress start → first ≡ first_line start others
    → Holed (first ++ lines said []) bytes → Begins (first ++ lines said []) (before_zero bytes)
crash_front start others first bytes said is own holed =
    front_of (first ++ lines said []) bytes (lacks-append 0 first (lines said []) (subst (Lacks 0) (sym own) (first_some start others is)) (lines_some said)) holed
