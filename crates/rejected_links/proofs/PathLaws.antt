-- Where an address's path and its query are cut.
use Rattle.std.proofs.Common.{◌≡◌, ◌≢◌, ℕ, ◌+◌, ◌<◌, inl, inr, List, [], ◌∷◌, ◌++◌, length, get_or, drop, Option, Some, None, Bor, refl, sym, ap, ◌∙◌, subst, arith, append-nil, append_assoc}
use Rattle.std.specs.Prelude.{MatchOption, slice_index, unwrap_or}
use Rattle.std.specs.Str.Pattern.{FindsCharPrefix}
use Rattle.std.proofs.lemmas.List.Elements.{All-append}
use Rattle.std.proofs.lemmas.Str.Pattern.{IsSplitOnceResult, split_after, split_parts, strip_prefix_char}
use Rattle.address.specs.Address.{AddressText, IsAddress, path_query_of, dir_of, file_of, query_of}

-- the path and the query that are cut out of one
abbrev Pair : Type 0
Pair = Bor (List ℕ) × Bor (List ℕ)

-- a text that begins with a byte
begins : (text : List ℕ) (b : ℕ) → slice_index text 0 ≡ b → 0 < b → text ≡ b ∷ drop 1 text
begins [] b is above = absurd (omega (arith, is))
begins (c ∷ text) b is above = ap (λ x. x ∷ text) is

-- the byte after a text's front
has_byte : (front rest : List ℕ) (b d : ℕ) → (length front < length (front ++ b ∷ rest)) × (get_or (front ++ b ∷ rest) (length front) d ≡ b)
has_byte [] rest b d = (omega arith, refl)
has_byte (x ∷ front) rest b d = let (lt, is) = has_byte front rest b d in (omega arith, is)

-- a text without this byte
abbrev IsWithout : ℕ → List ℕ → Type 0
IsWithout b text = (i : ℕ) → i < length text → get_or text i 0 ≢ b

-- cut at the first mark
cut_at : (whole nothing : Bor (List ℕ)) (path query : List ℕ) (r : Option Pair) → IsWithout 63 path → whole.now ≡ path ++ 63 ∷ query → IsSplitOnceResult 63 whole.now r
    → ((unwrap_or r (whole, nothing)).0.now ≡ path) × ((unwrap_or r (whole, nothing)).1.now ≡ query)
cut_at whole nothing path query r plain is cut = go r (split_after 63 whole.now path query r cut (omega arith) is plain)
  where
    go : (o : Option Pair) → MatchOption o ⊥ (λ x. (x.0.now ≡ path) × (x.1.now ≡ query)) → ((unwrap_or o (whole, nothing)).0.now ≡ path) × ((unwrap_or o (whole, nothing)).1.now ≡ query)
    go None h = absurd h
    go (Some x) h = h

-- without a mark
uncut : (whole nothing : Bor (List ℕ)) (path : List ℕ) (r : Option Pair) → IsWithout 63 path → whole.now ≡ path → nothing.now ≡ [] → IsSplitOnceResult 63 whole.now r
    → ((unwrap_or r (whole, nothing)).0.now ≡ path) × ((unwrap_or r (whole, nothing)).1.now ≡ [])
uncut whole nothing path r plain is none cut = go r (split_parts 63 whole.now r cut (omega arith))
  where
    go : (o : Option Pair) → MatchOption o ((i : ℕ) → i < length whole.now → get_or whole.now i 0 ≢ 63) (λ x. (whole.now ≡ x.0.now ++ (63 ∷ x.1.now)) × ((i : ℕ) → i < length x.0.now → get_or x.0.now i 0 ≢ 63))
        → ((unwrap_or o (whole, nothing)).0.now ≡ path) × ((unwrap_or o (whole, nothing)).1.now ≡ [])
    go None h = (is, none)
    go (Some x) h =
        let (lt, at) = has_byte x.0.now x.1.now 63 0 in
        let e : path ≡ x.0.now ++ 63 ∷ x.1.now = sym is ∙ h.0 in
        absurd (plain (length x.0.now) (subst (λ (t : List ℕ). length x.0.now < length t) (sym e) lt) (ap (λ (t : List ℕ). get_or t (length x.0.now) 0) e ∙ at))

-- a path has no mark
plain_path : (u : AddressText) → IsAddress u → IsWithout 63 (dir_of u ++ file_of u)
plain_path u is i below = All-append (λ b. b ≢ 63) (dir_of u) (file_of u) is.dir_bytes (λ k d lt. (is.file_bytes k d lt).1) i 0 below

whole_path : (u : AddressText) → IsAddress u → path_query_of u ≡ (dir_of u ++ file_of u) ++ query_of u
whole_path u is = is.path_parts ∙ sym (append_assoc (dir_of u) (file_of u) (query_of u))

-- an address's path, and its query without the mark
pub parts_of : (u : AddressText) → IsAddress u → (r : Option Pair) (whole nothing : Bor (List ℕ)) (parts : Pair) → parts ≡ unwrap_or r (whole, nothing) → whole.now ≡ path_query_of u → nothing.now ≡ []
    → IsSplitOnceResult 63 whole.now r → (parts.0.now ≡ dir_of u ++ file_of u) × (parts.1.now ≡ drop 1 (query_of u))
parts_of u is r whole nothing parts same all none cut =
    let path : List ℕ = dir_of u ++ file_of u in
    let found : ((unwrap_or r (whole, nothing)).0.now ≡ path) × ((unwrap_or r (whole, nothing)).1.now ≡ drop 1 (query_of u)) =
    elim is.query [
      | inl empty ↦ (let (p, q) = uncut whole nothing path r (plain_path u is) (all ∙ whole_path u is ∙ ap (λ (t : List ℕ). path ++ t) empty ∙ append-nil path) none cut in
          (p, q ∙ ap (drop 1) (sym empty)))
      | inr mark ↦ cut_at whole nothing path (drop 1 (query_of u)) r (plain_path u is) (all ∙ whole_path u is ∙ ap (λ (t : List ℕ). path ++ t) (begins (query_of u) 63 mark (omega arith))) cut
    ] in
    (ap (λ (p : Pair). p.0.now) same ∙ found.0, ap (λ (p : Pair). p.1.now) same ∙ found.1)

-- a path without its first slash
pub without_slash : (u : AddressText) → IsAddress u → (path : Bor (List ℕ)) (r : Option (Bor (List ℕ))) (left : Bor (List ℕ)) → left ≡ unwrap_or r path → path.now ≡ dir_of u ++ file_of u
    → MatchOption r (FindsCharPrefix 47 path.now None) (λ x. (n : ℕ) × FindsCharPrefix 47 path.now (Some n) × (x.now ≡ drop n path.now) × (length x.now + n ≡ length path.now)) → left.now ≡ drop 1 (dir_of u ++ file_of u)
without_slash u is path r left same all strips = ap (λ (p : Bor (List ℕ)). p.now) same ∙ go r (strip_prefix_char 47 path.now r strips (omega arith))
  where
    slash : path.now ≡ 47 ∷ (drop 1 (dir_of u) ++ file_of u)
    slash = all ∙ ap (λ (t : List ℕ). t ++ file_of u) (begins (dir_of u) 47 is.dir_begins (omega arith))

    go : (o : Option (Bor (List ℕ))) → MatchOption o ((rest : List ℕ) → path.now ≢ 47 ∷ rest) (λ x. path.now ≡ 47 ∷ x.now) → (unwrap_or o path).now ≡ drop 1 (dir_of u ++ file_of u)
    go None h = absurd (h (drop 1 (dir_of u) ++ file_of u) slash)
    go (Some x) h = ap (drop 1) (sym h ∙ all)
