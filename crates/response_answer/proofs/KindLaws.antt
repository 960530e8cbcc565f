-- The kinds of the reader's faults, and that their words are the kinds'.
use Rattle.std.proofs.Common.{◌≡◌, ◌≢◌, Option, Some, None, refl, sym, ap, ◌∙◌, MatchOption}
use Rattle.std.specs.Prelude.{⊤}
use Rattle.response_reader.specs.declared.fault.ReadFault.{ReadFault}
use Rattle.response_reader.specs.declared.fault.ReadFault.TheVariants as read
use Rattle.response_reader.specs.Words.{word_of as read_word}
use Rattle.fetcher.specs.declared.fault_kind.FaultKind.{FaultKind}
use Rattle.fetcher.specs.declared.fault_kind.FaultKind.TheVariants as kind
use Rattle.fetcher.specs.FaultWords.{word_of}
use Rattle.fetcher.proofs.FaultLaws.{kind_of, kind_of-word_of}
use Rattle.response_answer.specs.KindsOfFaults.{kind_of_fault}

-- the first, the second and the last of them
first : kind_of_fault read.Device ≡ Some kind.Device
first = refl

second : kind_of_fault read.Ended ≡ Some kind.Ended
second = refl

last : kind_of_fault read.BodyLong ≡ Some kind.BodyLong
last = refl

no_memory : kind_of_fault read.Memory ≡ None
no_memory = refl

-- a fault's word is that of its kind
same_word : (f : ReadFault) → MatchOption (kind_of_fault f) ⊤ (λ k. read_word f ≡ word_of k)
unfolding read_word word_of
same_word read.Memory = tt
same_word f = refl

-- the kind of a fault's word is that of the fault
same_kind : (f : ReadFault) → kind_of (read_word f) ≡ kind_of_fault f
unfolding kind_of read_word
same_kind read.Memory = refl
same_kind f = refl

-- the kind that has a fault's word is that of the fault, and if none has it there is none
pub found : (f : ReadFault) (r : Option FaultKind) → MatchOption r ((k : FaultKind) → read_word f ≢ word_of k) (λ k. read_word f ≡ word_of k)
    → r ≡ kind_of_fault f
found f (Some k) is = sym (kind_of-word_of k) ∙ ap kind_of (sym is) ∙ same_kind f
found f None none = by (kind_of_fault f) (same_word f)
  where
    by : (r : Option FaultKind) → MatchOption r ⊤ (λ k. read_word f ≡ word_of k) → None ≡ r
    by None is = refl
    by (Some k) is = absurd (none k is)
