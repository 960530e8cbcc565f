-- The letters that are left request what all do.
use Rattle.std.proofs.Common.{◌≡◌, length}
use Rattle.std.specs.Str.{IsUtf8}
use Rattle.options.specs.Asked.{wish_in}
use Rattle.options.proofs.asked.wish_in.Given as goal

abbrev pub invariant-loop-letters : goal.invariant-loop-letters
invariant-loop-letters l = record {
  same : wish_in l.letters ≡ wish_in l.initial.letters;
  text : IsUtf8 l.letters;
}

abbrev pub decreases-loop-letters : goal.decreases-loop-letters
decreases-loop-letters l = length l.letters
