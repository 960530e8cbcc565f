-- Names that are lent, and their order.
use Rattle.std.specs.Prelude.{ℕ, List, length, take}
use Rattle.std.specs.Cmp.Lexicographic.{slice_cmp}
use Rattle.std.specs.Ordering.{nat_cmp}
use Rattle.std.specs.declared.cmp.Ordering.{Ordering}
use denote.Ref.{Bor}

-- the text that is lent
abbrev pub lent_text : Bor (List ℕ) → List ℕ
lent_text text = text.now

-- the order of texts, by their bytes
abbrev pub text_cmp : Bor (List ℕ) → Bor (List ℕ) → Ordering
text_cmp text other = slice_cmp nat_cmp text.now other.now

-- how the first bytes of a lent name compare to a front
abbrev pub front_order : List ℕ → Bor (List ℕ) → Ordering
front_order front other = slice_cmp nat_cmp (take (length front) other.now) front
