-- What was read is part of all that the reader had.
use Rattle.std.proofs.Common.{◌<◌, ℕ, List, Option, None, Some, length, length-append, arith, refl}
use Rattle.std.specs.Io.KnownBytes.{Consumes}
use Rattle.std.proofs.KnownBytes.{Consumes-trans}
use Rattle.streams.specs.Streams.{IsInput}
use Rattle.streams.proofs.input.read_input.Goals as goal

too_long : (old new : Option (List ℕ)) (read : List ℕ) (limit : ℕ) → Consumes old new read → limit < length read → (input : List ℕ) × IsInput old input × (limit < length input)
too_long None new read limit h long = (read, tt, long)
too_long (Some bytes) None read limit h long = absurd h
too_long (Some bytes) (Some rest) read limit h long = (bytes, refl, rw h (omega (arith, length-append read rest)))

pub returns-then-n-limit-clause-long : goal.returns-then-n-limit-clause-long
returns-then-n-limit-clause-long g c = λ _.
    let read = Consumes-trans _ _ _ _ _ c.pieces.invariant.read c.in-Ok.ensures.bytes.0 in
    too_long _ _ _ _ read (omega (arith, length-append {A = ℕ}, c.in-Ok.ensures.bound.1, c.pieces.input.ok.0))
