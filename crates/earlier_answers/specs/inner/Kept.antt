-- A chain that is kept in the site that was read from its text, and answers that may be kept.
use Rattle.std.specs.Prelude.{◌≡◌, true, List, [], ◌∷◌, All}
use Rattle.address.specs.Address.{AddressText, OriginText}
use Rattle.fetcher.specs.declared.outcome.Outcome.{Outcome}
use Rattle.answer_notes.specs.HopChains.{ChainValue}
use Rattle.answer_notes.specs.declared.noted.Noted.{Noted}
use Rattle.answer_notes.specs.declared.noted.Noted.TheVariants.{Page, Chain}
use Rattle.site_records.specs.WrittenEntries.{IsNote}
use Rattle.earlier_answers.specs.Texts.{AreWhole, has_no_file}

-- the chain of the first note, if it is of one
abbrev pub first_chain : List Noted → ChainValue
first_chain [] = record { of = []; hops = [] }
first_chain (Page at received ∷ notes) = record { of = []; hops = [] }
first_chain (Chain c ∷ notes) = c

-- the notes are those of one chain of responses
pub record IsOneChain (notes : List Noted) : Type 0 where
  pub one : notes ≡ Chain (first_chain notes) ∷ []
  pub note : IsNote (Chain (first_chain notes))
  pub whole : AreWhole (first_chain notes).hops

-- a chain is kept under its origin
abbrev pub IsKept : OriginText × ChainValue → Type 0
IsKept entry = entry.1.of ≡ entry.0

-- each answer has no file, and each chain is its origin's
pub record AreKept (answers : List (AddressText × Outcome)) (chains : List (OriginText × ChainValue)) : Type 0 where
  pub answers_are : All (λ (a : AddressText × Outcome). has_no_file a.1 ≡ true) answers
  pub chains_are : All IsKept chains
