-- What is written for a file leads to it.
use Rattle.std.proofs.Common.{◌≡◌, ◌≢◌, ◌==◌, ◌||◌, ℕ, ◌<◌, ◌/◌, ◌%◌, Bool, true, false, List, [], ◌∷◌, ◌++◌, map, drop, All, length, if◌then◌else◌, codes, refl, sym, ap, ◌∙◌, subst, append_assoc, append-nil, arith}
use Rattle.std.proofs.lemmas.Bool.{eqb-true}
use Rattle.std.proofs.lemmas.Bool.Decides.{nat_tests}
use Rattle.std.proofs.lemmas.Slice.Eq.{bytes_eq-Decides}
use Rattle.std.proofs.lemmas.List.Elements.{All-head, All-tail, All-nil, All-cons, All-append, All-weaker}
use Rattle.std.proofs.lemmas.List.Splits.{slice_split_none, slice_split_at, join_with_byte-slice_split, length-slice_split}
use Rattle.std.specs.List.{slice_split, onto_first, join_with_byte}
use Rattle.std.specs.Str.{bytes_eq}
use Rattle.std.specs.Fmt.{digit_glyph}
use Rattle.percent_encoding.specs.Percent.{percent_encode_byte, percent_decode}
use Rattle.percent_encoding.proofs.PercentLemmas.{percent_decode-percent_encode_byte, percent_decode_not_percent, percent_decode-nil}
use Rattle.local_links.specs.Relative.{Segment, is_slash, directories, walk, onto, resolve, is_unreserved, written_byte, written, upward, between, relative, LeadsDown, IsLocal, IsLinkByte}

-- ---- segments

-- a segment of bytes that leads down
pub record IsDown (segment : Segment) : Type 0 where
  pub leads : LeadsDown segment
  pub bytes : All (λ b. b < 256) segment

decoded_byte : (b : ℕ) (rest : List ℕ) → b < 256 → percent_decode (written_byte b ++ rest) ≡ b ∷ percent_decode rest
decoded_byte b rest small = go (is_unreserved b) refl where
  plain : is_unreserved b ≡ true → b ≢ 37
  plain e f = let bad : is_unreserved 37 ≡ true = ap is_unreserved (sym f) ∙ e in absurd (cc)

  go : (t : Bool) → is_unreserved b ≡ t → percent_decode ((if t then b ∷ [] else percent_encode_byte b) ++ rest) ≡ b ∷ percent_decode rest
  go true e = percent_decode_not_percent b rest (plain e)
  go false e = percent_decode-percent_encode_byte b rest small

decoded : (segment : Segment) → All (λ b. b < 256) segment → percent_decode (written segment) ≡ segment
decoded [] small = percent_decode-nil
decoded (b ∷ bs) small =
    ap percent_decode refl ∙ decoded_byte b (written bs) (All-head (λ b. b < 256) b bs small) ∙ ap (λ xs. b ∷ xs) (decoded bs (All-tail (λ b. b < 256) b bs small))

differs : (xs ys : List ℕ) → xs ≢ ys → bytes_eq xs ys ≡ false
differs xs ys n = go (bytes_eq xs ys) refl where
  go : (t : Bool) → bytes_eq xs ys ≡ t → t ≡ false
  go false e = refl
  go true e = absurd (n ((bytes_eq-Decides xs ys).0 e))

-- what is written for such a segment is neither `..` nor `.`
not_above_written : (segment : Segment) → IsDown segment → bytes_eq (written segment) (codes "..") ≡ false
unfolding percent_decode
not_above_written segment s = differs (written segment) (codes "..") (λ e. s.leads.not_above (sym (decoded segment s.bytes) ∙ ap percent_decode e))

not_here_written : (segment : Segment) → IsDown segment → bytes_eq (written segment) (codes ".") ≡ false
unfolding percent_decode
not_here_written segment s = differs (written segment) (codes ".") (λ e. s.leads.not_here (sym (decoded segment s.bytes) ∙ ap percent_decode e))

-- ---- up and down

walk_up : (ds at rest : List Segment) → walk (ds ++ at) (upward ds ++ rest) ≡ walk at rest
walk_up [] at rest = refl
walk_up (d ∷ ds) at rest = walk_up ds at rest

walk_one : (segment : Segment) (at others : List Segment) → IsDown segment → walk at (written segment ∷ others) ≡ walk (segment ∷ at) others
walk_one segment at others s =
    go (bytes_eq (written segment) (codes "..")) (bytes_eq (written segment) (codes ".")) (not_above_written segment s) (not_here_written segment s)
    ∙ ap (λ one. walk (one ∷ at) others) (decoded segment s.bytes) where
      go : (t1 t2 : Bool) → t1 ≡ false → t2 ≡ false
          → (if t1 then walk (drop 1 at) others else if t2 then walk at others else walk (percent_decode (written segment) ∷ at) others) ≡ walk (percent_decode (written segment) ∷ at) others
      go t1 t2 e1 e2 = rw (e1, e2) refl

walk_down : (to at : List Segment) → All IsDown to → walk at (map written to) ≡ onto to at
walk_down [] at all = refl
walk_down (t ∷ ts) at all = walk_one t at (map written ts) (All-head IsDown t ts all) ∙ walk_down ts (t ∷ at) (All-tail IsDown t ts all)

same : (f t : Segment) → bytes_eq f t ≡ true → f ≡ t
same f t e = (bytes_eq-Decides f t).0 e

-- from within any directories the segments between two names lead from one to the other
walk_between : (from to at : List Segment) → All IsDown to → walk (directories from ++ at) (between from to) ≡ onto to at
walk_between [] to at all = walk_down to at all
walk_between (f ∷ []) to at all = walk_down to at all
walk_between (f ∷ g ∷ fs) [] at all =
    ap (walk (directories (f ∷ g ∷ fs) ++ at)) (sym (append-nil (upward (directories (f ∷ g ∷ fs))))) ∙ walk_up (directories (f ∷ g ∷ fs)) at []
walk_between (f ∷ g ∷ fs) (t ∷ []) at all = walk_up (directories (f ∷ g ∷ fs)) at (written t ∷ []) ∙ walk_down (t ∷ []) at all
walk_between (f ∷ g ∷ fs) (t ∷ u ∷ us) at all = go (bytes_eq f t) refl (walk_between (g ∷ fs) (u ∷ us) (f ∷ at) (All-tail IsDown t (u ∷ us) all)) where
  go : (b : Bool) → bytes_eq f t ≡ b → walk (directories (g ∷ fs) ++ (f ∷ at)) (between (g ∷ fs) (u ∷ us)) ≡ onto (u ∷ us) (f ∷ at)
      → walk (directories (f ∷ g ∷ fs) ++ at) (if b then between (g ∷ fs) (u ∷ us) else (upward (directories (f ∷ g ∷ fs)) ++ map written (t ∷ u ∷ us))) ≡ onto (t ∷ u ∷ us) at
  go true e h =
      ap (λ ds. walk ds (between (g ∷ fs) (u ∷ us))) (append_assoc (directories (g ∷ fs)) (f ∷ []) at) ∙ h ∙ ap (λ x. onto (u ∷ us) (x ∷ at)) (same f t e)
  go false e h = walk_up (directories (f ∷ g ∷ fs)) at (map written (t ∷ u ∷ us)) ∙ walk_down (t ∷ u ∷ us) at all

onto_onto : (xs ys zs : List Segment) → onto (onto xs ys) zs ≡ onto ys (xs ++ zs)
onto_onto [] ys zs = refl
onto_onto (x ∷ xs) ys zs = onto_onto xs (x ∷ ys) zs

-- ---- bytes

-- one of a segment
abbrev pub IsPartByte : ℕ → Type 0
IsPartByte b = (is_unreserved b || b == 37) ≡ true

glyph : (d : ℕ) → d < 16 → IsPartByte (digit_glyph true d)
glyph d small = grind (arith, nat_tests)

escape : (b : ℕ) → All IsPartByte (percent_encode_byte b)
unfolding percent_encode_byte
escape b =
    All-cons IsPartByte 37 (digit_glyph true (b / 16 % 16) ∷ digit_glyph true (b % 16) ∷ []) refl
    (All-cons IsPartByte (digit_glyph true (b / 16 % 16)) (digit_glyph true (b % 16) ∷ []) (glyph (b / 16 % 16) (omega arith))
    (All-cons IsPartByte (digit_glyph true (b % 16)) [] (glyph (b % 16) (omega arith)) (All-nil IsPartByte)))

part_byte : (b : ℕ) → All IsPartByte (written_byte b)
part_byte b = go (is_unreserved b) refl where
  go : (t : Bool) → is_unreserved b ≡ t → All IsPartByte (if t then b ∷ [] else percent_encode_byte b)
  go true e = All-cons IsPartByte b [] (ap (λ t. t || b == 37) e) (All-nil IsPartByte)
  go false e = escape b

pub part_bytes : (segment : Segment) → All IsPartByte (written segment)
part_bytes [] = All-nil IsPartByte
part_bytes (b ∷ bs) = All-append IsPartByte (written_byte b) (written bs) (part_byte b) (part_bytes bs)

-- ---- joined, and cut again

abbrev pub NoSlash : Segment → Type 0
NoSlash segment = All (λ b. is_slash b ≡ false) segment

part_no_slash : (b : ℕ) → IsPartByte b → is_slash b ≡ false
part_no_slash b e = go (b == 47) refl where
  go : (t : Bool) → (b == 47) ≡ t → t ≡ false
  go false h = refl
  go true h = let bad : IsPartByte 47 = subst IsPartByte (eqb-true b 47 h) e in absurd (cc)

written_no_slash : (segment : Segment) → NoSlash (written segment)
written_no_slash segment = All-weaker IsPartByte (λ b. is_slash b ≡ false) part_no_slash (written segment) (part_bytes segment)

upward_no_slash : (ds : List Segment) → All NoSlash (upward ds)
upward_no_slash [] = All-nil NoSlash
upward_no_slash (d ∷ ds) = All-cons NoSlash (codes "..") (upward ds) (All-cons (λ b. is_slash b ≡ false) 46 (46 ∷ []) refl (All-cons (λ b. is_slash b ≡ false) 46 [] refl (All-nil (λ b. is_slash b ≡ false)))) (upward_no_slash ds)

map_no_slash : (to : List Segment) → All NoSlash (map written to)
map_no_slash [] = All-nil NoSlash
map_no_slash (t ∷ ts) = All-cons NoSlash (written t) (map written ts) (written_no_slash t) (map_no_slash ts)

between_no_slash : (from to : List Segment) → All NoSlash (between from to)
between_no_slash [] to = map_no_slash to
between_no_slash (f ∷ []) to = map_no_slash to
between_no_slash (f ∷ g ∷ fs) [] = upward_no_slash (directories (f ∷ g ∷ fs))
between_no_slash (f ∷ g ∷ fs) (t ∷ []) = All-append NoSlash (upward (directories (f ∷ g ∷ fs))) (written t ∷ []) (upward_no_slash (directories (f ∷ g ∷ fs))) (map_no_slash (t ∷ []))
between_no_slash (f ∷ g ∷ fs) (t ∷ u ∷ us) = go (bytes_eq f t) (between_no_slash (g ∷ fs) (u ∷ us)) where
  go : (b : Bool) → All NoSlash (between (g ∷ fs) (u ∷ us)) → All NoSlash (if b then between (g ∷ fs) (u ∷ us) else (upward (directories (f ∷ g ∷ fs)) ++ map written (t ∷ u ∷ us)))
  go true h = h
  go false h = All-append NoSlash (upward (directories (f ∷ g ∷ fs))) (map written (t ∷ u ∷ us)) (upward_no_slash (directories (f ∷ g ∷ fs))) (map_no_slash (t ∷ u ∷ us))

split_joined : (first : Segment) (others : List Segment) → All NoSlash (first ∷ others) → slice_split is_slash (join_with_byte 47 (first ∷ others)) ≡ first ∷ others
split_joined first [] all = slice_split_none is_slash first (All-head NoSlash first [] all)
split_joined first (next ∷ others) all =
    slice_split_at is_slash first 47 (join_with_byte 47 (next ∷ others)) (All-head NoSlash first (next ∷ others) all) refl
    ∙ ap (λ parts. first ∷ parts) (split_joined next others (All-tail NoSlash first (next ∷ others) all))

split_any : (segments : List Segment) → segments ≢ [] → All NoSlash segments → slice_split is_slash (join_with_byte 47 segments) ≡ segments
split_any [] n all = absurd (n refl)
split_any (first ∷ others) n all = split_joined first others all

behind_not_empty : (xs : List Segment) (y : Segment) (ys : List Segment) → xs ++ y ∷ ys ≢ []
behind_not_empty [] y ys e = absurd (cc)
behind_not_empty (x ∷ xs) y ys e = absurd (cc)

map_not_empty : (to : List Segment) → to ≢ [] → map written to ≢ []
map_not_empty [] n e = n refl
map_not_empty (t ∷ ts) n e = absurd (cc)

between_not_empty : (from to : List Segment) → to ≢ [] → between from to ≢ []
between_not_empty [] to n = map_not_empty to n
between_not_empty (f ∷ []) to n = map_not_empty to n
between_not_empty (f ∷ g ∷ fs) [] n = absurd (n refl)
between_not_empty (f ∷ g ∷ fs) (t ∷ []) n = behind_not_empty (upward (directories (f ∷ g ∷ fs))) (written t) []
between_not_empty (f ∷ g ∷ fs) (t ∷ u ∷ us) n = go (bytes_eq f t) (between_not_empty (g ∷ fs) (u ∷ us) (λ e. absurd (cc))) where
  go : (b : Bool) → between (g ∷ fs) (u ∷ us) ≢ [] → (if b then between (g ∷ fs) (u ∷ us) else (upward (directories (f ∷ g ∷ fs)) ++ map written (t ∷ u ∷ us))) ≢ []
  go true h = h
  go false h = behind_not_empty (upward (directories (f ∷ g ∷ fs))) (written t) (map written (u ∷ us))

split_not_empty : (text : List ℕ) → slice_split is_slash text ≢ []
split_not_empty text e = let count = length-slice_split is_slash text in let none : length (slice_split is_slash text) ≡ 0 = ap length e in absurd (omega (arith, count, none))

-- what is written for a file of such segments leads to it
resolves : (from to : List ℕ) → All IsDown (slice_split is_slash to) → resolve from (relative from to) ≡ to
unfolding resolve relative
resolves from to all =
    let f = slice_split is_slash from in
    let t = slice_split is_slash to in
    ap (λ ss. join_with_byte 47 (onto (walk (directories f) ss) [])) (split_any (between f t) (between_not_empty f t (split_not_empty to)) (between_no_slash f t))
    ∙ ap (λ at. join_with_byte 47 (onto (walk at (between f t)) [])) (sym (append-nil (directories f)))
    ∙ ap (λ ss. join_with_byte 47 (onto ss [])) (walk_between f t [] all)
    ∙ ap (join_with_byte 47) (onto_onto t [] [] ∙ append-nil t)
    ∙ join_with_byte-slice_split 47 to

onto_first_bytes : (b : ℕ) (parts : List Segment) → b < 256 → All (All (λ x. x < 256)) parts → All (All (λ x. x < 256)) (onto_first b parts)
onto_first_bytes b [] small all = All-cons (All (λ x. x < 256)) (b ∷ []) [] (All-cons (λ x. x < 256) b [] small (All-nil (λ x. x < 256))) (All-nil (All (λ x. x < 256)))
onto_first_bytes b (part ∷ parts) small all =
    All-cons (All (λ x. x < 256)) (b ∷ part) parts (All-cons (λ x. x < 256) b part small (All-head (All (λ x. x < 256)) part parts all)) (All-tail (All (λ x. x < 256)) part parts all)

segments_bytes : (name : List ℕ) → All (λ x. x < 256) name → All (All (λ x. x < 256)) (slice_split is_slash name)
segments_bytes [] small = All-cons (All (λ x. x < 256)) [] [] (All-nil (λ x. x < 256)) (All-nil (All (λ x. x < 256)))
segments_bytes (b ∷ bs) small = go (is_slash b) (segments_bytes bs (All-tail (λ x. x < 256) b bs small)) where
  go : (t : Bool) → All (All (λ x. x < 256)) (slice_split is_slash bs) → All (All (λ x. x < 256)) (if t then [] ∷ slice_split is_slash bs else onto_first b (slice_split is_slash bs))
  go true all = All-cons (All (λ x. x < 256)) [] (slice_split is_slash bs) (All-nil (λ x. x < 256)) all
  go false all = onto_first_bytes b (slice_split is_slash bs) (All-head (λ x. x < 256) b bs small) all

all_down : (segments : List Segment) → All LeadsDown segments → All (All (λ x. x < 256)) segments → All IsDown segments
all_down [] leads bytes = All-nil IsDown
all_down (s ∷ ss) leads bytes =
    All-cons IsDown s ss (record { leads = All-head LeadsDown s ss leads; bytes = All-head (All (λ x. x < 256)) s ss bytes })
    (all_down ss (All-tail LeadsDown s ss leads) (All-tail (All (λ x. x < 256)) s ss bytes))

-- What is written for a file leads to it, from wherever it is.
pub resolve_relative : (from to : List ℕ) → All (λ x. x < 256) to → IsLocal to → resolve from (relative from to) ≡ to
resolve_relative from to small local = resolves from to (all_down (slice_split is_slash to) local (segments_bytes to small))

-- ---- what is written can be in each language as it is

link_byte : (b : ℕ) → IsPartByte b → IsLinkByte b
link_byte b e = go (is_unreserved b) (b == 37) (b == 47) e where
  go : (x y z : Bool) → (x || y) ≡ true → (x || y || z) ≡ true
  go true y z h = refl
  go false true z h = refl
  go false false z h = absurd (cc)

joined_bytes : (segments : List Segment) → All (λ s. All IsPartByte s) segments → All IsLinkByte (join_with_byte 47 segments)
joined_bytes [] all = All-nil IsLinkByte
joined_bytes (s ∷ []) all = All-weaker IsPartByte IsLinkByte link_byte s (All-head (λ s. All IsPartByte s) s [] all)
joined_bytes (s ∷ next ∷ others) all =
    All-append IsLinkByte s (47 ∷ join_with_byte 47 (next ∷ others)) (All-weaker IsPartByte IsLinkByte link_byte s (All-head (λ s. All IsPartByte s) s (next ∷ others) all))
    (All-cons IsLinkByte 47 (join_with_byte 47 (next ∷ others)) refl (joined_bytes (next ∷ others) (All-tail (λ s. All IsPartByte s) s (next ∷ others) all)))

upward_bytes : (ds : List Segment) → All (λ s. All IsPartByte s) (upward ds)
upward_bytes [] = All-nil (λ s. All IsPartByte s)
upward_bytes (d ∷ ds) = All-cons (λ s. All IsPartByte s) (codes "..") (upward ds) (All-cons IsPartByte 46 (46 ∷ []) refl (All-cons IsPartByte 46 [] refl (All-nil IsPartByte))) (upward_bytes ds)

map_bytes : (to : List Segment) → All (λ s. All IsPartByte s) (map written to)
map_bytes [] = All-nil (λ s. All IsPartByte s)
map_bytes (t ∷ ts) = All-cons (λ s. All IsPartByte s) (written t) (map written ts) (part_bytes t) (map_bytes ts)

between_bytes : (from to : List Segment) → All (λ s. All IsPartByte s) (between from to)
between_bytes [] to = map_bytes to
between_bytes (f ∷ []) to = map_bytes to
between_bytes (f ∷ g ∷ fs) [] = upward_bytes (directories (f ∷ g ∷ fs))
between_bytes (f ∷ g ∷ fs) (t ∷ []) = All-append (λ s. All IsPartByte s) (upward (directories (f ∷ g ∷ fs))) (written t ∷ []) (upward_bytes (directories (f ∷ g ∷ fs))) (map_bytes (t ∷ []))
between_bytes (f ∷ g ∷ fs) (t ∷ u ∷ us) = go (bytes_eq f t) (between_bytes (g ∷ fs) (u ∷ us)) where
  go : (b : Bool) → All (λ s. All IsPartByte s) (between (g ∷ fs) (u ∷ us)) → All (λ s. All IsPartByte s) (if b then between (g ∷ fs) (u ∷ us) else (upward (directories (f ∷ g ∷ fs)) ++ map written (t ∷ u ∷ us)))
  go true h = h
  go false h = All-append (λ s. All IsPartByte s) (upward (directories (f ∷ g ∷ fs))) (map written (t ∷ u ∷ us)) (upward_bytes (directories (f ∷ g ∷ fs))) (map_bytes (t ∷ u ∷ us))

-- letters, digits, `-`, `.`, `_`, `~`, `%` and `/` alone are written
pub relative_bytes : (from to : List ℕ) → All IsLinkByte (relative from to)
unfolding relative
relative_bytes from to = joined_bytes (between (slice_split is_slash from) (slice_split is_slash to)) (between_bytes (slice_split is_slash from) (slice_split is_slash to))

-- ---- something is written

abbrev pub Present : Segment → Type 0
Present segment = segment ≢ []

byte_written : (b : ℕ) → written_byte b ≢ []
unfolding percent_encode_byte
byte_written b = go (is_unreserved b) where
  go : (t : Bool) → (if t then b ∷ [] else percent_encode_byte b) ≢ []
  go true e = absurd (cc)
  go false e = absurd (cc)

front_some : (xs ys : List ℕ) → xs ≢ [] → xs ++ ys ≢ []
front_some [] ys n e = absurd (n refl)
front_some (x ∷ xs) ys n e = absurd (cc)

middle_some : (xs : List ℕ) (y : ℕ) (ys : List ℕ) → xs ++ y ∷ ys ≢ []
middle_some [] y ys e = absurd (cc)
middle_some (x ∷ xs) y ys e = absurd (cc)

written_some : (segment : Segment) → Present segment → Present (written segment)
written_some [] n = absurd (n refl)
written_some (b ∷ bs) n = front_some (written_byte b) (written bs) (byte_written b)

above_some : Present (codes "..")
above_some e = absurd (cc)

upward_some : (ds : List Segment) → All Present (upward ds)
upward_some [] = All-nil Present
upward_some (d ∷ ds) = All-cons Present (codes "..") (upward ds) above_some (upward_some ds)

map_some : (to : List Segment) → All Present to → All Present (map written to)
map_some [] all = All-nil Present
map_some (t ∷ ts) all = All-cons Present (written t) (map written ts) (written_some t (All-head Present t ts all)) (map_some ts (All-tail Present t ts all))

between_some : (from to : List Segment) → All Present to → All Present (between from to)
between_some [] to all = map_some to all
between_some (f ∷ []) to all = map_some to all
between_some (f ∷ g ∷ fs) [] all = upward_some (directories (f ∷ g ∷ fs))
between_some (f ∷ g ∷ fs) (t ∷ []) all = All-append Present (upward (directories (f ∷ g ∷ fs))) (written t ∷ []) (upward_some (directories (f ∷ g ∷ fs))) (map_some (t ∷ []) all)
between_some (f ∷ g ∷ fs) (t ∷ u ∷ us) all = go (bytes_eq f t) (between_some (g ∷ fs) (u ∷ us) (All-tail Present t (u ∷ us) all)) where
  go : (b : Bool) → All Present (between (g ∷ fs) (u ∷ us)) → All Present (if b then between (g ∷ fs) (u ∷ us) else (upward (directories (f ∷ g ∷ fs)) ++ map written (t ∷ u ∷ us)))
  go true h = h
  go false h = All-append Present (upward (directories (f ∷ g ∷ fs))) (map written (t ∷ u ∷ us)) (upward_some (directories (f ∷ g ∷ fs))) (map_some (t ∷ u ∷ us) all)

joined_some : (segments : List Segment) → segments ≢ [] → All Present segments → join_with_byte 47 segments ≢ []
joined_some [] n all = absurd (n refl)
joined_some (s ∷ []) n all = All-head Present s [] all
joined_some (s ∷ next ∷ others) n all = middle_some s 47 (join_with_byte 47 (next ∷ others))

-- The reference to a file of which no segment is empty isn't empty.
pub relative_some : (from to : List ℕ) → All Present (slice_split is_slash to) → relative from to ≢ []
unfolding relative
relative_some from to all =
    joined_some (between (slice_split is_slash from) (slice_split is_slash to))
    (between_not_empty (slice_split is_slash from) (slice_split is_slash to) (split_not_empty to))
    (between_some (slice_split is_slash from) (slice_split is_slash to) all)
