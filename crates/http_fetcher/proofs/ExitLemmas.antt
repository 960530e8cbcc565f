-- What holds at an exit of a call that may request a connection.
use Rattle.std.proofs.Common.{◌≡◌, ◌≤◌, ◌+◌, ℕ, Result, Ok, Err, arith}
use Rattle.std.specs.Prelude.{IfOk, OnOk, OnErr}
use Rattle.response_reader.specs.Wire.{counted, HasRisen}

-- what holds whatever is returned
pub on_ok : {T E : Type 0} (r : Result T E) {P : Type 0} → P → OnOk r P
on_ok (Ok a) p = p
on_ok (Err e) p = tt

pub on_err : {T E : Type 0} (r : Result T E) {P : Type 0} → P → OnErr r P
on_err (Ok a) p = tt
on_err (Err e) p = p

-- the count if no connection was requested
pub none_made : (old new : ℕ) → new ≡ old → new ≤ old + 1
none_made old new same = omega arith

-- if one was
pub one_made : (old new : ℕ) → new ≡ counted old 1 → new ≤ old + 1
one_made old new same = omega arith

-- a counted failure
pub risen : (old new : ℕ) → new ≡ counted old 1 → HasRisen old new
risen old new same = grind arith

-- what follows of two things that hold of a result
pub if_ok_two : {T E : Type 0} (r : Result T E) (P Q R : T → Type 0) → IfOk r P → IfOk r Q → ((a : T) → P a → Q a → R a) → IfOk r R
if_ok_two (Ok a) P Q R p q step = step a p q
if_ok_two (Err e) P Q R p q step = tt
