-- Entries, and what their fields say.
use Rattle.std.proofs.Common.{◌≡◌, ◌≢◌, ◌<◌, ℕ, List, [], Option, Some, None, Vec, Global, length, map, get_or, refl, sym, ◌∙◌, ap, arith}
use Rattle.std.specs.Prelude.{IfSome, IsUtf8, MatchOption}
use Rattle.std.proofs.lemmas.List.{get_or-map}
use Rattle.std.proofs.lemmas.List.Elements.{All-weaker}
use Rattle.std.proofs.lemmas.Str.{IsUtf8-from_ascii}
use Rattle.std.proofs.lemmas.Str.Ascii.{IsAscii-from_all}
use Rattle.address.specs.Address.{AddressText, IsAddress, IsAddressByte}
use Rattle.mirror_index.specs.Entries.{Entry, KeptHead, Text, entry_line}
use Rattle.mirror_index.specs.declared.entry.Mark.{Mark}

pub address_utf8 : (text : AddressText) → IsAddress text → IsUtf8 text
address_utf8 text is = IsUtf8-from_ascii text (IsAscii-from_all text (All-weaker IsAddressByte (λ x. x < 128) (λ b byte. omega arith) text is.plain))

abbrev items : Vec ℕ Global → Text
items v = v.items

-- the field at a place
pub field_at : (fields : List (Vec ℕ Global)) (texts : List Text) (k : ℕ) (v : Vec ℕ Global) → map (λ (f : Vec ℕ Global). f.items) fields ≡ texts → k < length fields → v ≡ get_or fields k v → v.items ≡ get_or texts k []
field_at fields texts k v is within at =
    ap items at ∙ sym (get_or-map items fields k v [] within) ∙ ap (λ (ts : List Text). get_or ts k []) is

pub same_entry : (e : Entry) (address name : Text) (size : ℕ) (mark : Mark) (head : KeptHead) → address ≡ e.address → name ≡ e.name → size ≡ e.size → mark ≡ e.mark → head ≡ e.head
    → record { address = address; name = name; size = size; mark = mark; head = head } ≡ e
same_entry e address name size mark head a n s m h = rw (a, n, s, m, h) refl

pub own_back : (line : Text) (entry e : Entry) (own : Option Entry) → MatchOption own (line ≢ entry_line entry) (λ x. (x ≡ entry) × (line ≡ entry_line entry)) → entry ≡ e → line ≡ entry_line e → own ≡ Some e
own_back line entry e None says same is = absurd (says (is ∙ ap entry_line (sym same)))
own_back line entry e (Some x) says same is = ap Some (says.0 ∙ same)

pub own_is : (line : Text) (entry : Entry) (own : Option Entry) → MatchOption own (line ≢ entry_line entry) (λ x. (x ≡ entry) × (line ≡ entry_line entry)) → IfSome own (λ e. line ≡ entry_line e)
own_is line entry None says = tt
own_is line entry (Some x) says = says.1 ∙ ap entry_line (sym says.0)
