-- Fields of a line are read back.
use Rattle.std.proofs.Common.{◌≡◌, ◌≢◌, ◌<◌, ◌^◌, ℕ, zero, suc, List, [], ◌∷◌, ◌++◌, get_or, refl, sym, ◌∙◌, ap, arith, append_assoc}
use Rattle.std.proofs.lemmas.Fmt.{decimal_by_steps}
use Rattle.std.proofs.lemmas.List.{append-nil}
use Rattle.std.specs.Fmt.{decimal}
use Rattle.hex.specs.Hex.{encode_lower, encode_with, lower_digits}
use Rattle.sha2.specs.Sha256.{sha256}
use Rattle.entry_lines.specs.Escapes.{escaped, HasNoSpace}
use Rattle.entry_lines.specs.Fields.{fields_text}
use Rattle.entry_lines.specs.Lines.{ArePlain}
use Rattle.entry_lines.proofs.EscapeLaws.{no_space_escaped}
use Rattle.entry_lines.proofs.FieldLaws.{plain_fields}
use Rattle.mirror_index.specs.Cuts.{Lacks}
use Rattle.mirror_index.specs.Entries.{Entry, Text, check_of, checked_text, entry_fields, entry_line}
use Rattle.mirror_index.proofs.CutLaws.{cut_once, lacks-append, lacks-take, lacks_by, not_cut}

pub spaceless : (xs : List ℕ) → HasNoSpace xs → Lacks 32 xs
spaceless [] none = tt
spaceless (x ∷ xs) none = (none.0, spaceless xs none.1)

in_one_line : (xs : List ℕ) → ArePlain xs → Lacks 10 xs
in_one_line [] none = tt
in_one_line (x ∷ xs) none = (none.1, in_one_line xs none.2)

-- ---- the check has neither a space nor a line feed

not_at : (b : ℕ) (xs : List ℕ) (k : ℕ) → Lacks b xs → 0 ≢ b → get_or xs k 0 ≢ b
not_at b [] zero none other = other
not_at b [] (suc k) none other = other
not_at b (x ∷ xs) zero none other = none.0
not_at b (x ∷ xs) (suc k) none other = not_at b xs k none.1 other

pub encoded_lacks : (b : ℕ) → Lacks b lower_digits → 0 ≢ b → (xs : List ℕ) → Lacks b (encode_lower xs)
unfolding encode_with
encoded_lacks b none other [] = tt
encoded_lacks b none other (x ∷ xs) = (not_at b lower_digits _ none other, (not_at b lower_digits _ none other, encoded_lacks b none other xs))

check_lacks : (b : ℕ) → Lacks b lower_digits → 0 ≢ b → (text : Text) → Lacks b (check_of text)
unfolding check_of
check_lacks b none other text = lacks-take b 16 (encode_lower (sha256 text)) (encoded_lacks b none other (sha256 text))

pub check_spaceless : (text : Text) → Lacks 32 (check_of text)
check_spaceless text = check_lacks 32 (lacks_by 32 lower_digits refl) (omega arith) text

check_in_line : (text : Text) → Lacks 10 (check_of text)
check_in_line text = check_lacks 10 (lacks_by 10 lower_digits refl) (omega arith) text

-- fields with their check are in one line
pub checked_in_line : (fields : List Text) → Lacks 10 (checked_text fields)
checked_in_line fields =
    lacks-append 10 (fields_text fields) (check_of (fields_text fields)) (in_one_line (fields_text fields) (plain_fields fields)) (check_in_line (fields_text fields))

pub entry_in_line : (e : Entry) → Lacks 10 (entry_line e)
entry_in_line e = checked_in_line (entry_fields e)

pub decimal_in_line : (n : ℕ) → n < 2 ^ 64 → Lacks 10 (decimal n)
decimal_in_line n small =
    decimal_by_steps (λ k digits. Lacks 10 digits) (λ k one. (omega arith, tt)) (λ k digits more before. lacks-append 10 digits _ before (omega arith, tt)) n small

-- ---- the fields of a line

-- of fields that were said, before a text without a space, these are read and the rest is that of the others
pub record FieldsLeft (said : List Text) (after : Text) (done : List Text) (rest : Text) : Type 0 where
  pub left : List Text
  pub all : said ≡ done ++ left
  pub text : rest ≡ fields_text left ++ after

pub none_read : (said : List Text) (after line : Text) → line ≡ fields_text said ++ after → FieldsLeft said after [] line
none_read said after line is = record { left = said; all = refl; text = is }

pub apart : (f : Text) (fs : List Text) (after rest : Text) → rest ≡ fields_text (f ∷ fs) ++ after → rest ≡ escaped f ++ 32 ∷ (fields_text fs ++ after)
apart f fs after rest is = is ∙ append_assoc (escaped f) (32 ∷ fields_text fs) after

pub one_read : (said : List Text) (after : Text) (done : List Text) (rest field later value : Text) → Lacks 32 after → FieldsLeft said after done rest
    → Lacks 32 field → rest ≡ field ++ 32 ∷ later → ((f : Text) → field ≡ escaped f → value ≡ f) → FieldsLeft said after (done ++ value ∷ []) later
one_read said after done rest field later value none before spaces cut meant = go before.left before.all before.text
  where
    go : (left : List Text) → said ≡ done ++ left → rest ≡ fields_text left ++ after → FieldsLeft said after (done ++ value ∷ []) later
    go [] all text = absurd (not_cut 32 after field later none (sym text ∙ cut))
    go (f ∷ fs) all text =
        let both = cut_once 32 field (escaped f) later (fields_text fs ++ after) spaces (spaceless (escaped f) (no_space_escaped f)) (sym cut ∙ apart f fs after rest text) in
        record {
          left = fs;
          all = all ∙ ap (λ (v : Text). done ++ v ∷ fs) (sym (meant f both.0)) ∙ sym (append_assoc done (value ∷ []) fs);
          text = both.1;
        }

pub all_read : (said : List Text) (after : Text) (done : List Text) (rest : Text) → FieldsLeft said after done rest → Lacks 32 rest → done ≡ said
all_read said after done rest before none = go before.left before.all before.text
  where
    go : (left : List Text) → said ≡ done ++ left → rest ≡ fields_text left ++ after → done ≡ said
    go [] all text = sym (all ∙ append-nil done)
    go (f ∷ fs) all text = absurd (not_cut 32 rest (escaped f) (fields_text fs ++ after) none (apart f fs after rest text))
