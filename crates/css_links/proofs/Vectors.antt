-- What vectors of 32 bytes say of the bytes of a text.
use Rattle.std.proofs.Common.{◌≡◌, ◌↔◌, ℕ, zero, suc, ◌+◌, ◌-◌, ◌<◌, ◌≤◌, Bool, true, false, cond, if◌then◌else◌, ◌||◌, ◌&&◌, ◌==◌, nat_le, nat_lt, List, [], ◌∷◌, ◌++◌, take, drop, length, get_or, replicate, refl, sym, ap, ◌∙◌, arith, bit_or, ⊎_elim}
use Rattle.std.specs.Int.{bit_at}
use Rattle.std.proofs.lemmas.Bool.{true≢false, cases_lt, or_parts, leb-false, le-ltb, ne_eqb}
use Rattle.std.proofs.lemmas.Simd.{get_or-replicate}
use Rattle.std.proofs.Math.Bool.{and-false}
use Rattle.memchr.proofs.lemmas.FindLemmas.{Nowhere-then}
use Rattle.std.proofs.lemmas.List.{get_or_past, length-append, length-take-le}
use Rattle.memchr.specs.Find.{Nowhere, Passes}
use Rattle.memchr.specs.Lanes.{HasLanes}
use Rattle.memchr.proofs.lemmas.BitLemmas.{or_ge_left, or_ge_right}
use Rattle.css_links.specs.Bytes.{is_newline, is_white, is_quote, is_unfit}
use Rattle.css_links.specs.inner.Lanes.{Covers}
use Rattle.css_links.specs.inner.Spans.{until, from}
use Rattle.css_links.proofs.Searching.{until_from, take_front, drop_front}

-- ---- lanes

low_select : (t : Bool) (x : ℕ) → x ≡ cond t 255 0 → x < 128 → t ≡ false
low_select true x e low = absurd (omega arith)
low_select false x e low = refl

-- lanes that are set if bytes pass the comparison with one
pub compared : (t : ℕ → ℕ → Bool) (bytes lanes : List ℕ) (x : ℕ) → HasLanes lanes (λ k. cond (t (get_or bytes k 0) x) 255 0) → Covers (λ b. t b x) bytes lanes
compared t bytes lanes x h = record {
  long = h.long;
  each = λ k below low. low_select (t (get_or bytes k 0) x) (get_or lanes k 0) (h.each k below) low;
}

-- lanes that are set if they are in one or the other
pub joined : (f g : ℕ → Bool) (bytes one other lanes : List ℕ) → HasLanes lanes (λ k. bit_or (get_or one k 0) (get_or other k 0))
    → Covers f bytes one → Covers g bytes other → Covers (λ b. f b || g b) bytes lanes
joined f g bytes one other lanes h p q = record {
  long = h.long;
  each = λ k below low.
      let left = p.each k below (omega (arith, h.each k below, or_ge_left (get_or one k 0) (get_or other k 0))) in
      let right = q.each k below (omega (arith, h.each k below, or_ge_right (get_or one k 0) (get_or other k 0))) in
      rw (left, right) refl;
}

-- lanes that are set for more bytes
pub widened : (f g : ℕ → Bool) (bytes lanes : List ℕ) → ((b : ℕ) → f b ≡ false → g b ≡ false) → Covers f bytes lanes → Covers g bytes lanes
widened f g bytes lanes fewer p = record { long = p.long; each = λ k below low. fewer (get_or bytes k 0) (p.each k below low) }

-- all lanes are set
pub all_set : (f : ℕ → Bool) (bytes : List ℕ) → Covers f bytes (replicate 32 255)
all_set f bytes = record { long = refl; each = λ k below low. absurd (omega (arith, get_or-replicate {A = ℕ} 32 k 255 0 below)) }

-- ---- places

not_set : (x m : ℕ) → (m ≡ 1) ↔ (128 ≤ x) → m ≡ 0 → x < 128
not_set x m h clear = ⊎_elim (λ low. low) (λ high. absurd (omega (arith, clear, h.1 high))) (cases_lt x 128)

-- none of the bytes stops whose bits are clear
pub clear_places : (stops : ℕ → Bool) (text bytes lanes : List ℕ) (m at n : ℕ) → HasLanes bytes (λ k. get_or text (at + k) 0) → Covers stops bytes lanes
    → ((k : ℕ) → (bit_at m k ≡ 1) ↔ (128 ≤ get_or lanes k 0)) → n ≤ 32 → ((k : ℕ) → k < n → bit_at m k ≡ 0) → Nowhere (Passes stops text) at (at + n)
clear_places stops text bytes lanes m at n h p marks short clear k low high passes =
    let j = k - at in
    let below : j < 32 = omega arith in
    let calm : stops (get_or bytes j 0) ≡ false = p.each j below (not_set _ _ (marks j) (clear j (omega arith))) in
    let same : get_or bytes j 0 ≡ get_or text k 0 = h.each j below ∙ ap (λ i. get_or text i 0) (omega arith) in
    true≢false (sym passes ∙ ap stops (sym same) ∙ calm)

-- a bit that is set means a lane
pub within_lanes : (lanes : List ℕ) (m k : ℕ) → length lanes ≡ 32 → ((k : ℕ) → (bit_at m k ≡ 1) ↔ (128 ≤ get_or lanes k 0)) → bit_at m k ≡ 1 → k < 32
within_lanes lanes m k long marks set =
    ⊎_elim (λ low. low) (λ high. absurd (omega (arith, (marks k).0 set, get_or_past lanes k 0 (omega arith)))) (cases_lt k 32)

-- the same before a place from which on 32 bytes were looked at
pub further : (stops : ℕ → Bool) (text bytes lanes : List ℕ) (m at n : ℕ) → HasLanes bytes (λ k. get_or text (at + k) 0) → Covers stops bytes lanes
    → ((k : ℕ) → (bit_at m k ≡ 1) ↔ (128 ≤ get_or lanes k 0)) → n ≤ 32 → ((k : ℕ) → k < n → bit_at m k ≡ 0)
    → Nowhere (Passes stops text) 0 at → Nowhere (Passes stops text) 0 (at + n)
further stops text bytes lanes m at n h p marks short clear before =
    Nowhere-then before (clear_places stops text bytes lanes m at n h p marks short clear)

-- a text of which no byte before a place stops, cut before the first byte that stops
pub until_calm : (stops : ℕ → Bool) (text : List ℕ) (at : ℕ) → at ≤ length text → Nowhere (Passes stops text) 0 at
    → (until stops text ≡ take at text ++ until stops (drop at text)) × (from stops text ≡ from stops (drop at text))
until_calm stops text zero h n = (refl, refl)
until_calm stops [] (suc at) h n = absurd (omega arith)
until_calm stops (b ∷ bs) (suc at) h n =
    go (stops b) refl (until_calm stops bs at (omega arith) (λ k _ below. n (suc k) (omega arith) (omega arith))) where
      go : (t : Bool) → stops b ≡ t → (until stops bs ≡ take at bs ++ until stops (drop at bs)) × (from stops bs ≡ from stops (drop at bs))
          → ((if t then [] else b ∷ until stops bs) ≡ b ∷ (take at bs ++ until stops (drop at bs))) × ((if t then b ∷ bs else from stops bs) ≡ from stops (drop at bs))
      go true e g = absurd (n 0 (omega arith) (omega arith) e)
      go false e g = (ap (λ text. b ∷ text) g.0, g.1)

-- a text cut after its calm front and the run after that
pub cut_after : (stops : ℕ → Bool) (text : List ℕ) (at : ℕ) → at ≤ length text → Nowhere (Passes stops text) 0 at → (run others : List ℕ) (n : ℕ)
    → others ≡ drop at text → run ≡ until stops others → n ≡ at + length run
    → (take n text ≡ until stops text) × (drop n text ≡ from stops text)
cut_after stops text at h calm run others n is_others is_run is_n =
    let parts = until_calm stops text at h calm in
    let whole : until stops text ≡ take at text ++ run = parts.0 ∙ ap (λ xs. take at text ++ until stops xs) (sym is_others) ∙ ap (λ xs. take at text ++ xs) (sym is_run) in
    let long : n ≡ length (until stops text) =
    is_n ∙ sym (ap length whole ∙ length-append (take at text) run ∙ ap (λ k. k + length run) (length-take-le at text h)) in (
      rw long (ap (take (length (until stops text))) (sym (until_from stops text)) ∙ take_front (until stops text) (from stops text)),
      rw long (ap (drop (length (until stops text))) (sym (until_from stops text)) ∙ drop_front (until stops text) (from stops text)),
    )

-- ---- classes

-- what isn't below a space, a newline or a backslash is none of what ends a string beside its quote
pub string_class : (b : ℕ) → (nat_le b 13 || b == 92) ≡ false → (is_newline b || b == 92) ≡ false
string_class b e =
    let parts = or_parts (nat_le b 13) (b == 92) e in
    let above : 13 < b = leb-false b 13 parts.0 in
    rw (ne_eqb b 10 (λ e. omega arith), ne_eqb b 12 (λ e. omega arith), ne_eqb b 13 (λ e. omega arith), parts.1) refl

-- what isn't below a space and none of the other bytes is none of what ends a URL without quotes beside `)`
pub unquoted_class : (b : ℕ) → (nat_le b 32 || (b == 92 || (is_quote b || (b == 40 || b == 127)))) ≡ false → (is_white b || (b == 92 || is_unfit b)) ≡ false
unquoted_class b e =
    let white = or_parts (nat_le b 32) _ e in
    let slash = or_parts (b == 92) _ white.1 in
    let quote = or_parts (is_quote b) _ slash.1 in
    let marks = or_parts (b == 34) (b == 39) quote.0 in
    let paren = or_parts (b == 40) (b == 127) quote.1 in
    let above : 32 < b = leb-false b 32 white.0 in
    rw (
      ne_eqb b 9 (λ e. omega arith),
      ne_eqb b 10 (λ e. omega arith),
      ne_eqb b 12 (λ e. omega arith),
      ne_eqb b 13 (λ e. omega arith),
      ne_eqb b 32 (λ e. omega arith),
      slash.0,
      marks.0,
      marks.1,
      paren.0,
      paren.1,
      ne_eqb b 11 (λ e. omega arith),
      le-ltb b 9 (omega arith),
      le-ltb b 32 (omega arith),
      and-false (nat_lt 0 b),
      and-false (nat_lt 13 b),
    ) refl

-- a run is no longer than its text
pub run_fits : (stops : ℕ → Bool) (text run : List ℕ) → run ≡ until stops text → length run ≤ length text
run_fits stops text run e =
    omega (arith, ap length e, sym (length-append (until stops text) (from stops text)) ∙ ap length (until_from stops text))
