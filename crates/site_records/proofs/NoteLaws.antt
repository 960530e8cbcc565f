-- A note says what its entry states.
use Rattle.std.proofs.Common.{◌≡◌, ℕ, ◌++◌, ◌∙◌, Bool, true, false, cond, List, [], ◌∷◌, None, refl, sym, ap, inl, inr}
use Rattle.std.specs.Map.{lookup}
use Rattle.std.specs.Str.{bytes_eq}
use Rattle.std.proofs.lemmas.List.{append-nil}
use Rattle.kept_bodies.specs.Bodies.{BodyValue}
use Rattle.address.specs.Address.{AddressText}
use Rattle.fetcher.specs.declared.answer.Answer.{Answer}
use Rattle.answer_notes.specs.Received.{received_outcome, received_body}
use Rattle.answer_notes.specs.HopChains.{ChainValue, rules_of_hops}
use Rattle.answer_notes.specs.declared.received.Received.{Received}
use Rattle.answer_notes.specs.declared.received.Received.TheVariants as received
use Rattle.answer_notes.specs.declared.noted.Noted.{Noted}
use Rattle.answer_notes.specs.declared.noted.Noted.TheVariants.{Page, Chain}
use Rattle.site_records.specs.declared.reading.RecordReading.{RecordReading}
use Rattle.site_records.specs.Entries.{ruled, chained, IsReadAs, IsReceivedIn}
use Rattle.site_records.specs.Received.{has_lost}
use Rattle.site_records.specs.Records.{answers_of}
use Rattle.site_records.specs.WrittenEntries.{note_entry}
use Rattle.site_records.specs.inner.RecordNotes.{AddsNote}
use Rattle.site_records.specs.inner.Readings.{Keeps, KeepsNote, with_lost}
use Rattle.html_links.specs.declared.rules.LinkRules.{LinkRules}

-- what bytes contain as a response is what they answer
pub read_as_told : (links : LinkRules) (at : AddressText) (bytes : List ℕ) (t : Received) → IsReceivedIn bytes t → IsReadAs links at bytes (record { outcome = received_outcome links at t; body = received_body t })
read_as_told links at bytes (received.Whole r) is = inl (record { response = r; begins = is; outcome = refl; body = refl })
read_as_told links at bytes (received.Fault kind) (fault, text, of, kind_is) = inr (record { fault = fault; kind = kind; text = text; of_bytes = of; kind_is = kind_is; answer = refl })

-- an answer is what was received if its parts are
pub answer_is : (links : LinkRules) (at : AddressText) (t : Received) (a : Answer BodyValue) → a.outcome ≡ received_outcome links at t → a.body ≡ received_body t
    → a ≡ record { outcome = received_outcome links at t; body = received_body t }
answer_is links at t a outcome body = λ i. record { outcome = outcome i; body = body i }

-- a note is kept if notes are, and says its own entry
note_added : (keeps : Bool) (links : LinkRules) (old new : List Noted) (note : Noted) → new ≡ cond keeps (old ++ note ∷ []) old → AddsNote keeps links old (note_entry links note) new
note_added true links old new note is = (note, is, record { answers = refl; rules = refl; each = refl })
note_added false links old new note is = is

-- what was received for an address is kept after the others, and then its note
pub keeps_page : (old mid new : RecordReading) (at : AddressText) (t : Received) → lookup (bytes_eq at) old.answers.entries ≡ None → mid ≡ record old { answers = mid.answers }
    → mid.answers.entries ≡ old.answers.entries ++ answers_of (note_entry old.links (Page at t) ∷ []) → new ≡ record mid { notes = new.notes }
    → new.notes.items ≡ cond mid.keeps_notes (mid.notes.items ++ Page at t ∷ []) mid.notes.items → KeepsNote old (Page at t) new
keeps_page old mid new at t vacant first answers second items = record {
  answers = ap (λ (r : RecordReading). r.answers.entries) second ∙ answers;
  rules = ap (λ (r : RecordReading). r.rules.entries) second ∙ ap (λ (r : RecordReading). r.rules.entries) first ∙ sym (append-nil old.rules.entries);
  lost = ap (λ (r : RecordReading). r.lost.keys) second ∙ ap (λ (r : RecordReading). r.lost.keys) first;
  links = ap (λ (r : RecordReading). r.links) second ∙ ap (λ (r : RecordReading). r.links) first;
  version = ap (λ (r : RecordReading). r.version) second ∙ ap (λ (r : RecordReading). r.version) first;
  keeps_notes = ap (λ (r : RecordReading). r.keeps_notes) second ∙ ap (λ (r : RecordReading). r.keeps_notes) first;
  noted = note_added old.keeps_notes old.links old.notes.items new.notes.items (Page at t)
      (items ∙ ap (λ (r : RecordReading). cond r.keeps_notes (r.notes.items ++ Page at t ∷ []) r.notes.items) first);
  is_new = vacant;
}

-- the rules of a chain are kept after the others, and its note
pub keeps_chain : (old new : RecordReading) (c : ChainValue) → lookup (bytes_eq c.of) old.rules.entries ≡ None → new.rules.entries ≡ old.rules.entries ++ (c.of, rules_of_hops c.hops) ∷ []
    → new.lost.keys ≡ with_lost old.lost.keys (has_lost c.hops) c.of → new.answers.entries ≡ old.answers.entries → new.links ≡ old.links → new.version ≡ old.version → new.keeps_notes ≡ old.keeps_notes
    → new.notes.items ≡ cond old.keeps_notes (old.notes.items ++ Chain c ∷ []) old.notes.items → KeepsNote old (Chain c) new
keeps_chain old new c vacant rules lost answers links version keeps items = record {
  answers = answers ∙ sym (append-nil old.answers.entries);
  rules = rules;
  lost = lost;
  links = links;
  version = version;
  keeps_notes = keeps;
  noted = note_added old.keeps_notes old.links old.notes.items new.notes.items (Chain c) items;
  is_new = vacant;
}

-- a chain is kept as its rules are, if they forbid all just if it failed
pub keeps_rules : (old new : RecordReading) (c : ChainValue) → has_lost c.hops ≡ (rules_of_hops c.hops).closed → KeepsNote old (Chain c) new → Keeps old (ruled c.of (rules_of_hops c.hops)) new
keeps_rules old new c same keeps = record {
  answers = keeps.answers;
  rules = keeps.rules;
  lost = keeps.lost ∙ ap (λ b. with_lost old.lost.keys b c.of) same;
  links = keeps.links;
  version = keeps.version;
  keeps_notes = keeps.keeps_notes;
  noted = noted old.keeps_notes old.notes.items new.notes.items keeps.noted;
  is_new = keeps.is_new;
}
  where
    noted : (b : Bool) (was now : List Noted) → AddsNote b old.links was (chained c.of c.hops) now → AddsNote b old.links was (ruled c.of (rules_of_hops c.hops)) now
    noted true was now (note, is, says) = (note, is, record { answers = says.answers; rules = says.rules; each = says.each ∙ ap (λ b. record { answers = []; rules = (c.of, rules_of_hops c.hops) ∷ []; failed = b } ∷ []) same })
    noted false was now is = is
