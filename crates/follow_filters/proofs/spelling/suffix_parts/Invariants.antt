use Rattle.std.proofs.Common.{◌≡◌, ◌∷◌, map, take}
use Rattle.follow_filters.specs.declared.pattern.PatternPart.TheVariants as part
use Rattle.follow_filters.proofs.spelling.suffix_parts.Given as goal

abbrev pub invariant-loop-byte : goal.invariant-loop-byte
invariant-loop-byte l = l.parts.items ≡ part.Run ∷ map (λ b. part.Byte b) (take l.byte-index l.suffix)
