-- What the bytes of a link's text say of whether it is relative.
use Rattle.std.proofs.Common.{◌≡◌, ℕ, ◌≤◌, ◌<◌, ◌==◌, Bool, true, false, not, ◌||◌, ◌&&◌, List, ◌∷◌, if◌then◌else◌, refl, arith}
use Rattle.std.proofs.lemmas.Bool.{lt-ltb, le-ltb}
use Rattle.std.specs.Char.{is_ascii_alphabetic}
use Rattle.html_links.specs.Rules.{ends_scheme, is_passed, is_relative, is_scheme_byte, without_passed}

-- ---- the rest of a scheme

pub colon : (bs : List ℕ) → ends_scheme (without_passed (58 ∷ bs)) ≡ true
colon bs = refl

-- a byte of a scheme, or one that is passed over, says nothing
pub goes_on : (b : ℕ) (bs : List ℕ) → (is_scheme_byte b || is_passed b) ≡ true → ends_scheme (without_passed (b ∷ bs)) ≡ ends_scheme (without_passed bs)
goes_on b bs may = go (is_passed b) refl may where
  go : (t : Bool) → is_passed b ≡ t → (is_scheme_byte b || t) ≡ true → ends_scheme (without_passed (b ∷ bs)) ≡ ends_scheme (without_passed bs)
  go true passed may = rw passed refl
  go false passed may = rw passed (by (is_scheme_byte b) refl may) where
    by : (s : Bool) → is_scheme_byte b ≡ s → (s || false) ≡ true → ends_scheme (b ∷ without_passed bs) ≡ ends_scheme (without_passed bs)
    by true is may = rw is refl
    by false is may = absurd cc

-- any other byte but the colon is no part of one
pub ends : (b : ℕ) (bs : List ℕ) → (b == 58) ≡ false → (is_scheme_byte b || is_passed b) ≡ false → ends_scheme (without_passed (b ∷ bs)) ≡ false
ends b bs other may = go (is_scheme_byte b) (is_passed b) refl refl may where
  go : (s t : Bool) → is_scheme_byte b ≡ s → is_passed b ≡ t → (s || t) ≡ false → ends_scheme (without_passed (b ∷ bs)) ≡ false
  go true t scheme passed may = absurd cc
  go false true scheme passed may = absurd cc
  go false false scheme passed may = rw (passed, scheme, other) refl

-- ---- the front of a text

-- what isn't visible says nothing
pub hidden : (b : ℕ) (bs : List ℕ) → b ≤ 32 → is_relative (b ∷ bs) ≡ is_relative bs
hidden b bs low = rw (le-ltb 32 b low) refl

decided : (s t a : Bool) → not (((if s then true else false) || (if t then true else false)) || a) ≡ (not (s || t) && not a)
decided true t a = refl
decided false true a = refl
decided false false a = refl

visible_is_read : (b : ℕ) → 32 < b → is_passed b ≡ false
visible_is_read b high = grind arith

-- the first visible byte decides with what follows it
pub visible : (b : ℕ) (bs : List ℕ) → 32 < b
    → is_relative (b ∷ bs) ≡ (not (b == 47 || b == 92) && not (is_ascii_alphabetic b && ends_scheme (without_passed bs)))
visible b bs high = rw (lt-ltb 32 b high, visible_is_read b high) (decided (b == 47) (b == 92) (is_ascii_alphabetic b && ends_scheme (without_passed bs)))
