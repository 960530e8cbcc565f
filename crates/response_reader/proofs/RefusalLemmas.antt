-- What a fault says of whether the sink refused.
use Rattle.std.proofs.Common.{◌≡◌, ◌≢◌, Bool, true, refl, subst}
use Rattle.response_reader.specs.declared.fault.ReadFault.{ReadFault}
use Rattle.response_reader.specs.declared.fault.ReadFault.TheVariants.{BodyLong, Memory}
use Rattle.response_reader.specs.inner.Refusals.{FaultRefuses}

pub fault_refuses_unless : (f : ReadFault) (old new : Bool) → f ≢ Memory → new ≡ old → FaultRefuses old new f
fault_refuses_unless Memory old new ne x = absurd (ne refl)
fault_refuses_unless f old new ne x = x

pub long_is_not_memory : (f : ReadFault) → f ≡ BodyLong → f ≢ Memory
long_is_not_memory f long memory = cc

pub fault_refused_not : (f : ReadFault) (old new : Bool) → f ≢ Memory → FaultRefuses old new f → new ≡ old
fault_refused_not Memory old new ne x = absurd (ne refl)
fault_refused_not f old new ne x = x

pub memory_refused : (f : ReadFault) (old new : Bool) → f ≡ Memory → FaultRefuses old new f → new ≡ true
memory_refused f old new is x = subst (λ (e : ReadFault). FaultRefuses old new e) is x
