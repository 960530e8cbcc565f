-- What a fetcher with a journal hands over, seen from before and after its calls.
use Rattle.std.proofs.Common.{◌≡◌, ◌∙◌, ◌⊎◌, ℕ, List, [], ◌∷◌, ◌++◌, Option, Result, Ok, Err, OnErr, sym, ap, subst, inl, inr}
use Rattle.std.specs.Io.KnownBytes.{Appends}
use Rattle.kept_bodies.specs.Bodies.{BodyValue}
use Rattle.streams.specs.Streams.{AppendsFront}
use Rattle.address.specs.Address.{AddressText}
use Rattle.fetcher.specs.declared.answer.Answer.{Answer}
use Rattle.fetcher.specs.declared.outcome.Outcome.{Outcome}
use Rattle.fetcher.specs.Logs.{GainedAtMost}
use Rattle.answer_notes.specs.Received.{received_outcome, received_body}
use Rattle.answer_notes.specs.declared.received.Received.{Received}
use Rattle.answer_notes.specs.declared.noted.Noted.{Noted}
use Rattle.site_records.specs.WrittenEntries.{written_note}
use Rattle.record_journal.specs.Handed.{Journaling, IsHanded}
use Rattle.html_links.specs.declared.rules.LinkRules.{LinkRules}

-- what is so holds of a call that failed
pub on_err : {T E P : Type 0} (r : Result T E) → P → OnErr r P
on_err (Ok x) p = tt
on_err (Err e) p = p

-- the log gained as much over what is the same before
pub gained_over : {A : Type 0} {was old new : List A} (ask : A) → was ≡ old → GainedAtMost was new ask → GainedAtMost old new ask
gained_over {new = new} ask same gained = subst (λ log. GainedAtMost log new ask) same gained

-- a note is handed over from what is the same before, and so is one that is equal
pub is_handed : {F J : Type 0} (contents : J → Option (List ℕ)) {n m : Noted} {j : J} {kept : List Noted} (old new : Journaling F J) → j ≡ old.journal → kept ≡ old.kept → n ≡ m
    → (Appends (contents j) (contents new.journal) (written_note n) × (new.kept ≡ kept)) ⊎ (AppendsFront (contents j) (contents new.journal) (written_note n) × (new.kept ≡ kept ++ n ∷ []))
    → IsHanded contents m old new
is_handed contents {n} {m} {j} {kept} old new same before note (inl (taken, still)) =
    inl (subst (λ k. Appends (contents k) (contents new.journal) (written_note m)) same (subst (λ x. Appends (contents j) (contents new.journal) (written_note x)) note taken), still ∙ before)
is_handed contents {n} {m} {j} {kept} old new same before note (inr (refused, more)) =
    inr (
      subst (λ k. AppendsFront (contents k) (contents new.journal) (written_note m)) same (subst (λ x. AppendsFront (contents j) (contents new.journal) (written_note x)) note refused),
      more ∙ ap (λ ns. ns ++ n ∷ []) before ∙ ap (λ x. old.kept ++ x ∷ []) note,
    )

-- what was received says the answer that was made of it
pub says_told : {S : Type 0} (says : S → AddressText → Outcome → BodyValue → Type 0) {was old : S} {given links : LinkRules} {at : AddressText} (told : Received) (a : Answer BodyValue) → was ≡ old → links ≡ given
    → a.outcome ≡ received_outcome links at told → a.body ≡ received_body told → says was at (received_outcome given at told) (received_body told) → says old at a.outcome a.body
says_told says told a site links outcome body said = rw (outcome, body, links, sym site) said

-- a journal gained a front of the entry of a note over what is the same before, and so of one that is equal
pub half_handed : {J : Type 0} (contents : J → Option (List ℕ)) {n m : Noted} {j old : J} (new : J) → j ≡ old → n ≡ m
    → AppendsFront (contents j) (contents new) (written_note n) → AppendsFront (contents old) (contents new) (written_note m)
half_handed contents {n} {m} {j} {old} new same note front =
    subst (λ k. AppendsFront (contents k) (contents new) (written_note m)) same (subst (λ x. AppendsFront (contents j) (contents new) (written_note x)) note front)
