-- What the program makes of its arguments, and what a person reads about them.
use Rattle.std.specs.Prelude.{◌≡◌, ◌⊎◌, ℕ, true, List, Option, String, codes, drop, map, string_bytes}
use Rattle.std.specs.declared.io.ErrorKind.{ErrorKind}
use Rattle.std.specs.declared.io.ErrorKind.TheVariants.{OutOfMemory}
use Rattle.retriever.specs.Advice.{said_of}
use Rattle.options.specs.Order.{seeks_in}
use Rattle.options.specs.declared.fault.LineFault.TheVariants as line
use Rattle.options.specs.declared.order.Order.{Order}
use Rattle.retriever.specs.Order.{IsLiveOrder, IsRefused}
use Rattle.retriever.specs.Parts.{IsDelivered, IsFaultDelivered}
use Rattle.retriever.specs.Run.{fault_text, fault_status}
use Rattle.retriever.specs.Systems.{Means, OrderedRun}
use Rattle.streams.specs.Streams.{AppendsFront}
use Rattle.retriever.specs.declared.fault.Fault.{Fault}
use Rattle.retriever.specs.declared.fault.Fault.TheVariants as fault

-- the words of arguments: all after the program's name
abbrev pub words_behind : {Z : Type 0} → List (String Z) → List (List ℕ)
words_behind arguments = map string_bytes (drop 1 arguments)

-- why there are no arguments: memory ran out, or one isn't text
abbrev pub words_fault : ErrorKind → Fault
words_fault OutOfMemory = fault.Memory
words_fault kind = fault.NotText

-- the outputs of the program at one moment: what its writer got, and its error stream with what a person got there
pub record Outputs (E : Type 0) : Type 0 where
  pub written : Option (List ℕ)
  pub errors : E
  pub told : Option (List ℕ)

-- these outputs
abbrev pub outputs : {E : Type 0} → (E → Option (List ℕ)) → Option (List ℕ) → E → Outputs E
outputs contents written errors = record { written = written; errors = errors; told = contents errors }

-- The text of a fault of the words, or what they request, is delivered with its status, and what is wrong, or a front of it, was written to a person;
-- or the line for memory that ran out is delivered, and nothing was written to a person.
abbrev pub IsExplained : {E : Type 0} → List (List ℕ) → Fault → Outputs E → Outputs E → ℕ → Type 0
IsExplained words wrong before after status =
    (IsDelivered before.written after.written (fault_text wrong) (fault_status wrong) status × AppendsFront before.told after.told (said_of words wrong))
    ⊎ (IsDelivered before.written after.written (codes "stopped memory\n") 1 status × (after.errors ≡ before.errors))

-- what is wrong with the words is reported, in its line and to a person
abbrev pub IsFaultReported : {E : Type 0} → List (List ℕ) → Outputs E → Outputs E → ℕ → Type 0
IsFaultReported words before after status = (wrong : Fault) × IsRefused words wrong × IsExplained words wrong before after status

-- ---- a site on the network

-- the line for memory that ran out before the words are carried out, or, if they look for an expression, that for one that would cost too much
abbrev pub IsUndone : List (List ℕ) → Option (List ℕ) → Option (List ℕ) → ℕ → Type 0
IsUndone words before after status =
    IsFaultDelivered before after fault.Memory status ⊎ ((seeks_in words ≡ true) × IsFaultDelivered before after (fault.Line line.LargeExpression) status)

-- nothing was written to a person, or, if the words look for an expression, that one would cost too much, or a front of that
abbrev pub IsQuietFor : {E : Type 0} → List (List ℕ) → Outputs E → Outputs E → Type 0
IsQuietFor words before after =
    (after.errors ≡ before.errors) ⊎ ((seeks_in words ≡ true) × AppendsFront before.told after.told (said_of words (fault.Line line.LargeExpression)))

-- the live retrieval that the words order, or the line for what hindered it before
abbrev pub ProgramRun : {S B F K D V O : Type 0} → Means S B F K D V O → Option (List ℕ) → Option (List ℕ) → ℕ → List (List ℕ) → Type 0
ProgramRun m before after status words =
    ((order : Order) × IsLiveOrder words order × OrderedRun m order before after status) ⊎ IsUndone words before after status
