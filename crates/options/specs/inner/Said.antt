-- What proofs alone need beside `Said`.
use Rattle.std.specs.Borrow.{Bor}
use Rattle.clap.specs.Walk.{Text}
use Rattle.options.specs.declared.said.Letter.{Letter}
use Rattle.options.specs.declared.said.Letter.TheVariants as letter
use Rattle.options.specs.declared.said.Meaning.{Meaning}
use Rattle.options.specs.declared.said.Meaning.TheVariants as meaning
use Rattle.options.specs.declared.said.Saying.{Saying}
use Rattle.options.specs.declared.said.Saying.TheVariants as saying
use Rattle.options.specs.declared.said.State.{State}
use Rattle.options.specs.declared.said.State.TheVariants as state

-- a meaning, as the code has it
abbrev pub meaning_in : Meaning (Bor Text) → Meaning Text
meaning_in (meaning.Means name value) = meaning.Means name.now value.now
meaning_in (meaning.Waits name) = meaning.Waits name.now
meaning_in meaning.Unknown = meaning.Unknown

-- a letter, as the code has it
abbrev pub letter_by_code : Letter (Bor Text) → Letter Text
letter_by_code (letter.Goes name value rest) = letter.Goes name.now value.now rest.now
letter_by_code (letter.Is meaning) = letter.Is (meaning_in meaning)

-- what a word says, as the code has it
abbrev pub saying_in : Saying (Bor Text) → Saying Text
saying_in (saying.Says name value) = saying.Says name.now value.now
saying_in (saying.Starts word) = saying.Starts word.now
saying_in (saying.Unread word) = saying.Unread word.now

-- how the next word is read, as the code has it
abbrev pub state_in : State (Bor Text) → State Text
state_in state.Free = state.Free
state_in (state.Waits name) = state.Waits name.now
state_in state.Ended = state.Ended
