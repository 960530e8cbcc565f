-- Elements of lists, as they are read.
use Rattle.std.specs.Prelude.{◌≡◌, ◌⊎◌, Option, Some, None, Result, MatchResult}
use Rattle.follow_filters.specs.declared.elements.ElementFault.{ElementFault}
use Rattle.follow_filters.specs.declared.elements.ElementFault.TheVariants.{Bad, Memory}

-- the fault comes where it may: Bad if no element is expected, and Memory anywhere
abbrev pub IsFaultOf : {X : Type 0} → Option X → ElementFault → Type 0
IsFaultOf expected fault = ((fault ≡ Bad) × (expected ≡ None)) ⊎ (fault ≡ Memory)

-- the result is the expected element, or Bad if none is expected, unless memory ran out
abbrev pub ReadsElement : {X : Type 0} → Result X ElementFault → Option X → Type 0
ReadsElement result expected =
    MatchResult result (λ element. expected ≡ Some element) (IsFaultOf expected)
