-- Digits, read one after another.
use Rattle.std.proofs.Common.{◌≡◌, ◌∙◌, ℕ, suc, ◌+◌, ◌*◌, ◌<◌, ◌≤◌, ◌^◌, true, refl, ap, List, [], ◌∷◌, ◌++◌, length, length-append, get_or, take, codes, min, leb, leb-true, arith}
use Rattle.std.specs.List.{list_all}
use Rattle.std.specs.Char.{digit_value, is_ascii_digit}
use Rattle.std.specs.Str.Parse.{digits_value, digits_value_after}
use Rattle.std.proofs.Math.Nat.{pow-suc}
use Rattle.std.proofs.lemmas.Bool.{and_parts}
use Rattle.std.proofs.lemmas.List.{take_more}
use Rattle.std.proofs.lemmas.List.Sums.{AllPass-from_list_all}
use Rattle.std.proofs.lemmas.Str.{digit_value_digit}

digit_bounds : (b : ℕ) → is_ascii_digit b ≡ true → (48 ≤ b) × (b ≤ 57)
digit_bounds b is = let m = and_parts (leb 48 b) (leb b 57) is in (leb-true 48 b m.0, leb-true b 57 m.1)

-- a digit among digits, and what it writes
pub digit_among : (digits : List ℕ) (i d : ℕ) → list_all is_ascii_digit digits ≡ true → i < length digits → (48 ≤ get_or digits i d) × (get_or digits i d ≤ 57) × (digit_value (get_or digits i d) + 48 ≡ get_or digits i d)
digit_among digits i d all below =
    let b = digit_bounds (get_or digits i d) (AllPass-from_list_all is_ascii_digit digits all i d below) in
    (b.0, b.1, digit_value_digit (get_or digits i d) b)

-- digits that follow the same number, as far as 60
pub capped : (n m : ℕ) (ds : List ℕ) → min n 60 ≡ min m 60 → min (digits_value_after 10 n ds) 60 ≡ min (digits_value_after 10 m ds) 60
capped n m [] same = same
capped n m (d ∷ ds) same = capped (n * 10 + digit_value d) (m * 10 + digit_value d) ds (omega (arith, same))

after_push : (n : ℕ) (ds : List ℕ) (d : ℕ) → digits_value_after 10 n (ds ++ d ∷ []) ≡ digits_value_after 10 n ds * 10 + digit_value d
after_push n [] d = refl
after_push n (x ∷ ds) d = after_push (n * 10 + digit_value x) ds d

-- one place more
pub place_more : (ds : List ℕ) (place : ℕ) → place < length ds → digits_value 10 (take (place + 1) ds) ≡ digits_value 10 (take place ds) * 10 + digit_value (get_or ds place 0)
place_more ds place below = ap (digits_value 10) (take_more ds place 0 below) ∙ after_push 0 (take place ds) (get_or ds place 0)

pub padded : (digits : List ℕ) (place : ℕ) → place < 9 → place < length (digits ++ codes "000000000")
padded digits place below = omega (arith, length-append digits (codes "000000000"))

-- one place more, and ten times as many numbers
pub few_more : (n d place : ℕ) → n < 10 ^ place → d < 10 → n * 10 + d < 10 ^ (place + 1)
few_more n d place few digit =
    let more : 10 ^ (place + 1) ≡ 10 ^ suc place = ap (λ p. 10 ^ p) (omega arith) in
    omega (arith, more, pow-suc 10 place, few, digit)
