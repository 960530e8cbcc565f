-- What a fetcher with a journal does with what it receives: the journal has it, or the fetcher keeps it.
use Rattle.std.specs.Prelude.{◌≡◌, ◌⊎◌, ℕ, Bool, List, [], ◌∷◌, ◌++◌, Option}
use Rattle.std.specs.Io.KnownBytes.{Appends}
use Rattle.kept_bodies.specs.Bodies.{BodyValue}
use Rattle.streams.specs.Streams.{AppendsFront}
use Rattle.address.specs.Address.{AddressText, OriginText}
use Rattle.robots_rules.specs.Access.{RuleSetValue}
use Rattle.fetcher.specs.declared.answer.Answer.{Answer}
use Rattle.answer_notes.specs.Received.{received_outcome, received_body}
use Rattle.answer_notes.specs.HopChains.{HopValue, rules_of_hops}
use Rattle.answer_notes.specs.declared.received.Received.{Received}
use Rattle.answer_notes.specs.declared.noted.Noted.{Noted}
use Rattle.answer_notes.specs.declared.noted.Noted.TheVariants.{Page, Chain}
use Rattle.site_records.specs.WrittenEntries.{written_note}
use Rattle.html_links.specs.declared.rules.LinkRules.{LinkRules}

-- a fetcher with a journal, whether what it receives is to be saved, and the notes that the journal didn't take
pub record Journaling (F J : Type 0) : Type 0 where
  pub inner : F
  pub journal : J
  pub is_recording : Bool
  pub kept : List Noted

-- the journal gained the entry of the note; or a front of it, and the note is kept after the others
abbrev pub IsHanded : {F J : Type 0} → (J → Option (List ℕ)) → Noted → Journaling F J → Journaling F J → Type 0
IsHanded contents note old new =
    (Appends (contents old.journal) (contents new.journal) (written_note note) × (new.kept ≡ old.kept))
    ⊎ (AppendsFront (contents old.journal) (contents new.journal) (written_note note) × (new.kept ≡ old.kept ++ note ∷ []))

-- nothing was handed over
abbrev pub IsStill : {F J : Type 0} → Journaling F J → Journaling F J → Type 0
IsStill old new = (new.journal ≡ old.journal) × (new.kept ≡ old.kept)

-- a note of this address was handed over, which says this answer
abbrev pub HandsPage : {F J : Type 0} → (J → Option (List ℕ)) → LinkRules → AddressText → Answer BodyValue → Journaling F J → Journaling F J → Type 0
HandsPage contents links at answer old new =
    (received : Received) × IsHanded contents (Page at received) old new × (answer.outcome ≡ received_outcome links at received) × (answer.body ≡ received_body received)

-- a note of this origin was handed over, which says these rules
abbrev pub HandsChain : {F J : Type 0} → (J → Option (List ℕ)) → OriginText → RuleSetValue → Journaling F J → Journaling F J → Type 0
HandsChain contents of rules old new =
    (hops : List HopValue) × IsHanded contents (Chain (record { of = of; hops = hops })) old new × (rules ≡ rules_of_hops hops)

-- after a call that failed the journal is what it was, or it gained a front of the entry of a note of this address
abbrev pub IsHalfHandedPage : {F J : Type 0} → (J → Option (List ℕ)) → AddressText → Journaling F J → Journaling F J → Type 0
IsHalfHandedPage contents at old new =
    (new.journal ≡ old.journal) ⊎ ((received : Received) × AppendsFront (contents old.journal) (contents new.journal) (written_note (Page at received)))

-- the same of a note of this origin
abbrev pub IsHalfHandedChain : {F J : Type 0} → (J → Option (List ℕ)) → OriginText → Journaling F J → Journaling F J → Type 0
IsHalfHandedChain contents of old new =
    (new.journal ≡ old.journal)
    ⊎ ((hops : List HopValue) × AppendsFront (contents old.journal) (contents new.journal) (written_note (Chain (record { of = of; hops = hops }))))
