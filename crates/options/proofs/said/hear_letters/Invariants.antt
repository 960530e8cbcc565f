-- What the letters that are left say is said after what was said.
use Rattle.std.proofs.Common.{◌≡◌, ◌++◌, length, map}
use Rattle.std.specs.Str.{IsUtf8}
use Rattle.options.specs.Said.{heard_letters}
use Rattle.options.specs.inner.Said.{saying_in}
use Rattle.options.proofs.said.hear_letters.Given as goal

abbrev pub invariant-loop-letters : goal.invariant-loop-letters
invariant-loop-letters l = record {
  said : map saying_in l.said.items ++ (heard_letters l.word l.letters).said ≡ map saying_in l.initial.said.items ++ (heard_letters l.word l.initial.letters).said;
  state : (heard_letters l.word l.letters).state ≡ (heard_letters l.word l.initial.letters).state;
  text : IsUtf8 l.letters;
}

abbrev pub decreases-loop-letters : goal.decreases-loop-letters
decreases-loop-letters l = length l.letters
