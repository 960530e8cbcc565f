-- How a chain grows, and when it is one that is admitted.
use Rattle.std.proofs.Common.{◌≡◌, ◌≢◌, ℕ, zero, suc, ◌+◌, ◌<◌, ◌≤◌, ◌⊎◌, ◌++◌, ◌∙◌, List, [], ◌∷◌, Option, Some, None, refl, sym, ap, subst, inl, inr, length, arith}
use Rattle.std.specs.Prelude.{Ok, Err}
use Rattle.address.specs.Address.{AddressText, OriginText, read_either}
use Rattle.site_inputs.proofs.NameLaws.{records as names}
use Rattle.answer_notes.specs.RobotsAnswers.{max_redirects}
use Rattle.answer_notes.specs.Received.{received_target}
use Rattle.answer_notes.specs.HopChains.{HopValue, AreHops, IsAdmitted, robots_file}
use Rattle.site_inputs.specs.declared.input_fault.InputLineFault.{InputLineFault}
use Rattle.site_inputs.specs.declared.input_fault.InputLineFault.TheVariants.{Line, Address, Memory}
use Rattle.site_inputs.specs.Names.{IsRecorded as IsNamed}
use Rattle.site_records.specs.EntryLines.{HopStatement, HasHopForm, hop_text, IsHopCount}
use Rattle.site_records.specs.Entries.{IsLine, more_hops, IsHop, IsBegun, AreLed, due, chain_start, BeginsHop}
use Rattle.site_records.specs.inner.Readings.{AddsHop, IsWrongHop, IsBadHop, NamesDue}
use Rattle.std.specs.Str.{IsUtf8}
use Rattle.site_records.proofs.EntryLaws.{same_line}

-- a hop after the others, where they lead
led_on : (from : Option AddressText) (hops : List HopValue) (h : HopValue) → AreLed from hops → due from hops ≡ Some h.0 → AreLed from (hops ++ h ∷ [])
led_on from [] h led is = (is, tt)
led_on from (x ∷ hops) h led is = (led.0, led_on (received_target x.0 x.1) hops h led.1 is)

-- it leads to where it redirects
pub due_behind : (from : Option AddressText) (hops : List HopValue) (h : HopValue) → due from (hops ++ h ∷ []) ≡ received_target h.0 h.1
due_behind from [] h = refl
due_behind from (x ∷ hops) h = due_behind (received_target x.0 x.1) hops h

-- one more hop is read
pub row_grows : (of : OriginText) (text : List ℕ) (hops : List HopValue) (rest : List ℕ) (h : HopValue) (after : List ℕ) → IsBegun of text hops rest
    → IsHop rest h after → due (chain_start of) hops ≡ Some h.0 → IsBegun of text (hops ++ h ∷ []) after
row_grows of text hops rest h after begun is led = record {
  are = more_hops hops rest h after begun.are is;
  led = led_on (chain_start of) hops h begun.led led;
}

some_same : (x y : AddressText) → Some x ≡ Some y → x ≡ y
some_same x y e = cc

-- hops that are led from an address, as many as may be, are a chain from there
admitted_from : (left : ℕ) (at : AddressText) (hops : List HopValue) → AreLed (Some at) hops → 0 < length hops → length hops ≤ left + 1
    → (length hops < left + 1 → due (Some at) hops ≡ None) → AreHops left at hops
admitted_from left at [] led some few ends = absurd (omega (arith, some))
admitted_from zero at (h ∷ []) led some few ends = (sym (some_same at h.0 led.0), tt)
admitted_from (suc left) at (h ∷ []) led some few ends =
    let here = sym (some_same at h.0 led.0) in
    (here, subst (λ a. received_target a h.1 ≡ None) here (ends (omega arith)))
admitted_from zero at (h ∷ second ∷ more) led some few ends = absurd (omega (arith, few))
admitted_from (suc left) at (h ∷ second ∷ more) led some few ends =
    let here = sym (some_same at h.0 led.0) in (
      here,
      subst (λ a. received_target a h.1 ≡ Some second.0) here led.1.0,
      admitted_from left second.0 (second ∷ more) (refl, led.1.1) (omega arith) (omega (arith, few)) (λ less. ends (omega (arith, less))),
    )

-- this many hops that are led from an origin's robots file, and don't lead on if one more redirect may be followed
pub chain_admitted : (of : OriginText) (hops : List HopValue) (n : ℕ) → AreLed (chain_start of) hops → length hops ≡ n → IsHopCount n
    → (n < max_redirects + 1 → due (chain_start of) hops ≡ None) → IsAdmitted of hops
chain_admitted of hops n led long count ends =
    let some = count.0 in
    let few = count.1 in
    admitted_from max_redirects (robots_file of) hops led (omega (arith, long, some)) (omega (arith, long, few)) (λ less. ends (omega (arith, long, less)))

-- ---- from the line of a hop to the text

-- a text without a first line that is UTF-8 begins with no line of a hop
pub no_hop_line : (text : List ℕ) → ((line behind : List ℕ) → IsLine text line behind → ¬ IsUtf8 line) → (s : HopStatement) (behind : List ℕ) → ¬ BeginsHop text s behind
no_hop_line text none s behind b = none b.line behind b.is_line b.form.0

-- nor does one whose first line has no such form
pub no_hop_form : (text line behind : List ℕ) → IsLine text line behind → ((s : HopStatement) → ¬ HasHopForm line s) → (s : HopStatement) (after : List ℕ) → ¬ BeginsHop text s after
no_hop_form text line behind is none s after b =
    let e = (same_line text b.line line after behind b.is_line is).0 in
    none s (rw e at b.form)

-- the line of a hop that is taken is a hop
pub hop_is : (from : Option AddressText) (text line behind : List ℕ) (s : HopStatement) (h : HopValue) (after : List ℕ) → IsLine text line behind → HasHopForm line s
    → AddsHop from s behind h after → IsHop text h after × (from ≡ Some h.0)
hop_is from text line behind s h after is form adds =
    (record { line = line; behind = behind; says = s; is_line = is; form = form; is_named = adds.is_named; at = adds.at; tells = adds.tells }, adds.led)

-- one that is refused is a bad hop
pub hop_is_bad : (from : Option AddressText) (text line behind : List ℕ) (s : HopStatement) (f : InputLineFault) → IsLine text line behind → HasHopForm line s
    → IsWrongHop from s behind f → IsBadHop f from text
hop_is_bad from text line behind s Line is form wrong = inr (s, behind, record { line = line; is_line = is; form = form }, wrong.0, wrong.1)
hop_is_bad from text line behind s Address is form wrong = (s, behind, record { line = line; is_line = is; form = form }, wrong)
hop_is_bad from text line behind s Memory is form wrong = tt

-- a hop whose address isn't read, or isn't where the chain leads
pub hop_unread : (from : Option AddressText) (s : HopStatement) (behind : List ℕ) (f : InputLineFault) → NamesDue from (hop_text s) (Err f) → IsWrongHop from s behind f
hop_unread from s behind Line h = (h.0, inl h.1)
hop_unread from s behind Address h = h
hop_unread from s behind Memory h = tt

-- a text whose address isn't read
pub due_unread : (from : Option AddressText) (text : List ℕ) (f : InputLineFault) → (f ≡ Memory) ⊎ ((f ≡ Address) × ¬ IsNamed text) → NamesDue from text (Err f)
due_unread from text f (inl e) = rw e tt
due_unread from text f (inr h) = rw h.0 h.1

-- one that the chain doesn't lead to
pub not_due : (from : Option AddressText) (text at : List ℕ) → read_either text ≡ Ok at → from ≢ Some at → NamesDue from text (Err Line)
not_due from text at reads other =
    let k = names text at reads in
    (k.0, (λ e. other (e ∙ ap Some k.1)))

-- and one that it does
pub is_due : (from : Option AddressText) (text at : List ℕ) → read_either text ≡ Ok at → from ≡ Some at → NamesDue from text (Ok at)
is_due from text at reads same =
    let k = names text at reads in
    (k.0, sym k.1, same)
