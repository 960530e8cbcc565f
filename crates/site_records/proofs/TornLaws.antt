-- A line says one thing, so it is known where a text ends within an entry.
use Rattle.std.proofs.Common.{◌≡◌, ℕ, zero, suc, ◌≤◌, ◌<◌, ◌∙◌, true, IsTrue, List, [], ◌∷◌, Option, Some, None, refl, sym, ap, subst, inl, inr, length, arith}
use Rattle.std.specs.Prelude.{◌↔◌, ◌-◌, nat_le, codes, if◌then◌else◌, option_map, slice_get}
use Rattle.std.specs.Str.{bytes_eq}
use Rattle.std.proofs.lemmas.Bool.{leb-true}
use Rattle.std.proofs.lemmas.Bool.Decides.{nat_tests}
use Rattle.std.proofs.lemmas.Option.{slice_get_within}
use Rattle.site_inputs.specs.Fields.{fields}
use Rattle.fetcher.specs.declared.fault_kind.FaultKind.{FaultKind}
use Rattle.fetcher.proofs.FaultLaws.{kind_of, kind_of-word_of}
use Rattle.site_records.specs.declared.version.Version.{Version}
use Rattle.site_records.specs.EntryLines.{Statement, page, fault, file, free, closed, chain, IsForm, HasForm, length_of, HopStatement, hop, hopfault, IsHopForm, HasHopForm}
use Rattle.site_records.specs.Entries.{IsLine, HasBytes, Begins, BeginsHop}
use Rattle.site_records.specs.Fronts.{RunsOutIn, IsTornRow, RunsOut, IsTornEntry}
use Rattle.site_records.proofs.EntryLaws.{same_line}

-- ---- a line has one form

abbrev said_as : List ℕ → List ℕ → List ℕ → Option Statement
said_as w text third =
    if bytes_eq w (codes "page") then option_map (page text) (length_of third)
    else (if bytes_eq w (codes "fault") then option_map (λ kind. fault kind third) (kind_of text)
    else (if bytes_eq w (codes "robots") then option_map (file text) (length_of third)
    else (if bytes_eq w (codes "chain") then option_map (chain text) (length_of third)
    else (if bytes_eq text (codes "all") then Some (free third) else Some (closed third)))))

-- what fields say
abbrev said_by : List (List ℕ) → Option Statement
said_by [] = None
said_by (w ∷ []) = None
said_by (w ∷ text ∷ []) = None
said_by (w ∷ text ∷ third ∷ more) = said_as w text third

said_once : (fs : List (List ℕ)) (s : Statement) → IsForm fs s → said_by fs ≡ Some s
said_once fs (page text n) h = ap said_by h.1 ∙ ap (option_map (page text)) h.2
said_once fs (fault kind text) h = ap said_by h ∙ ap (option_map (λ kind. fault kind text)) (kind_of-word_of kind)
said_once fs (file text n) h = ap said_by h.1 ∙ ap (option_map (file text)) h.2
said_once fs (free text) h = ap said_by h
said_once fs (closed text) h = ap said_by h
said_once fs (chain text n) h = ap said_by h.1 ∙ ap (option_map (chain text)) h.2

-- the same of the lines of hops
abbrev hop_said_by : List (List ℕ) → Option HopStatement
hop_said_by [] = None
hop_said_by (w ∷ []) = None
hop_said_by (w ∷ text ∷ []) = None
hop_said_by (w ∷ text ∷ third ∷ more) = if bytes_eq w (codes "hop") then option_map (hop text) (length_of third) else option_map (λ kind. hopfault kind third) (kind_of text)

hop_said_once : (fs : List (List ℕ)) (s : HopStatement) → IsHopForm fs s → hop_said_by fs ≡ Some s
hop_said_once fs (hop text n) h = ap hop_said_by h.1 ∙ ap (option_map (hop text)) h.2
hop_said_once fs (hopfault kind text) h = ap hop_said_by h ∙ ap (option_map (λ kind. hopfault kind text)) (kind_of-word_of kind)

same_some : {A : Type 0} (o : Option A) (x y : A) → o ≡ Some x → o ≡ Some y → x ≡ y
same_some o x y p q = cc

-- and so does the text
pub begins_once : (version : Version) (text line behind : List ℕ) (s t : Statement) (after : List ℕ) → IsLine text line behind → HasForm version line s → Begins version text t after → (t ≡ s) × (after ≡ behind)
begins_once version text line behind s t after is form b =
    let (lines, rests) = same_line text b.line line after behind b.is_line is in
    let other : IsForm (fields line) t = subst (λ l. IsForm (fields l) t) lines b.form.1 in
    (same_some (said_by (fields line)) t s (said_once (fields line) t other) (said_once (fields line) s form.1), rests)

pub begins_hop_once : (text line behind : List ℕ) (s t : HopStatement) (after : List ℕ) → IsLine text line behind → HasHopForm line s → BeginsHop text t after → (t ≡ s) × (after ≡ behind)
begins_hop_once text line behind s t after is form b =
    let (lines, rests) = same_line text b.line line after behind b.is_line is in
    let other : IsHopForm (fields line) t = subst (λ l. IsHopForm (fields l) t) lines b.form.1 in
    (same_some (hop_said_by (fields line)) t s (hop_said_once (fields line) t other) (hop_said_once (fields line) s form.1), rests)

-- ---- an entry within which a text ends

-- a text with a line that isn't UTF-8, or has no form, doesn't end within an entry
pub without_form : (version : Version) (text line behind : List ℕ) → IsLine text line behind → ((s : Statement) → ¬ HasForm version line s) → ¬ IsTornEntry version text
without_form version text line behind is none (inl no_line) = no_line line behind is
without_form version text line behind is none (inr (s, after, b, runs)) =
    let (lines, rests) = same_line text b.line line after behind b.is_line is in
    none s (subst (λ l. HasForm version l s) lines b.form)

-- one whose line has a form does if what the line counts runs out
pub with_form : (version : Version) (text line behind : List ℕ) (s : Statement) (P : Type 0) → IsLine text line behind → HasForm version line s → P ↔ RunsOut s behind → P ↔ IsTornEntry version text
with_form version text line behind s P is form iff = (
  (λ p. inr (s, behind, record { line = line; is_line = is; form = form }, iff.0 p)),
  back,
)
  where
    back : IsTornEntry version text → P
    back (inl no_line) = absurd (no_line line behind is)
    back (inr (t, after, b, runs)) =
        let (same, rests) = begins_once version text line behind s t after is form b in
        iff.1 (subst (λ r. RunsOut s r) rests (subst (λ r. RunsOut r after) same runs))

-- ---- a row of hops within which a text ends

pub row_without_form : (n : ℕ) (text line behind : List ℕ) → IsLine text line behind → ((s : HopStatement) → ¬ HasHopForm line s) → ¬ IsTornRow n text
row_without_form zero text line behind is none torn = torn
row_without_form (suc n) text line behind is none (inl no_line) = no_line line behind is
row_without_form (suc n) text line behind is none (inr (s, after, b, runs)) =
    let (lines, rests) = same_line text b.line line after behind b.is_line is in
    none s (subst (λ l. HasHopForm l s) lines b.form)

row_with_form : (n : ℕ) (text line behind : List ℕ) (s : HopStatement) (P : Type 0) → IsLine text line behind → HasHopForm line s → P ↔ RunsOutIn s behind (IsTornRow n) → P ↔ IsTornRow (suc n) text
row_with_form n text line behind s P is form iff = (
  (λ p. inr (s, behind, record { line = line; is_line = is; form = form }, iff.0 p)),
  back,
)
  where
    back : IsTornRow (suc n) text → P
    back (inl no_line) = absurd (no_line line behind is)
    back (inr (t, after, b, runs)) =
        let (same, rests) = begins_hop_once text line behind s t after is form b in
        iff.1 (subst (λ r. RunsOutIn s r (IsTornRow n)) rests (subst (λ r. RunsOutIn r after (IsTornRow n)) same runs))

-- the same of a number that isn't none
one_less : (count : ℕ) (text : List ℕ) (Q : ℕ → Type 0) → 0 < count → ((n : ℕ) → count ≡ suc n → Q (suc n)) → Q count
one_less zero text Q some h = absurd (omega arith)
one_less (suc n) text Q some h = h n refl

pub row_fault : (count less : ℕ) (text line behind address : List ℕ) (kind : FaultKind) (P : Type 0) → 0 < count → less ≡ count - 1 → IsLine text line behind → HasHopForm line (hopfault kind address)
    → P ↔ IsTornRow less behind → P ↔ IsTornRow count text
row_fault count less text line behind address kind P some is_less is form iff =
    one_less count text (λ n. P ↔ IsTornRow n text) some
    (λ n e. row_with_form n text line behind (hopfault kind address) P is form (subst (λ k. P ↔ IsTornRow k behind) (let k : less ≡ n = omega (arith, is_less, e) in k) iff))

pub row_whole : (count less : ℕ) (text line behind address bytes after : List ℕ) (len : ℕ) (P : Type 0) → 0 < count → less ≡ count - 1 → IsLine text line behind → HasHopForm line (hop address len)
    → HasBytes behind len bytes after → P ↔ IsTornRow less after → P ↔ IsTornRow count text
row_whole count less text line behind address bytes after len P some is_less is form has iff =
    one_less count text (λ n. P ↔ IsTornRow n text) some
    (λ n e. row_with_form n text line behind (hop address len) P is form (along n (subst (λ k. P ↔ IsTornRow k after) (let k : less ≡ n = omega (arith, is_less, e) in k) iff)))
  where
    along : (n : ℕ) → P ↔ IsTornRow n after → P ↔ RunsOutIn (hop address len) behind (IsTornRow n)
    along n iff = ((λ p. inr (bytes, after, has, iff.0 p)), back)
      where
        back : RunsOutIn (hop address len) behind (IsTornRow n) → P
        back (inl short) = let within = slice_get_within behind len 10 has.ends in absurd (omega (arith, within, short))
        back (inr (other, rest, are, runs)) = iff.1 (subst (IsTornRow n) (are.after_is ∙ sym has.after_is) runs)

pub row_short : (count : ℕ) (text line behind address : List ℕ) (len : ℕ) (P : Type 0) → 0 < count → IsLine text line behind → HasHopForm line (hop address len)
    → ¬ (slice_get behind len ≡ Some 10) → P ↔ (length behind ≤ len) → P ↔ IsTornRow count text
row_short count text line behind address len P some is form none iff =
    one_less count text (λ n. P ↔ IsTornRow n text) some (λ n e. row_with_form n text line behind (hop address len) P is form ((λ p. inl (iff.0 p)), back n))
  where
    back : (n : ℕ) → RunsOutIn (hop address len) behind (IsTornRow n) → P
    back n (inl short) = iff.1 short
    back n (inr (other, rest, are, runs)) = absurd (none are.ends)

-- a test of two numbers
pub le_test : (a b : ℕ) → IsTrue (nat_le a b) ↔ (a ≤ b)
le_test a b = ((λ is. leb-true a b is), back)
  where
    back : a ≤ b → IsTrue (nat_le a b)
    back le = let yes : nat_le a b ≡ true = grind (arith, nat_tests) in yes
