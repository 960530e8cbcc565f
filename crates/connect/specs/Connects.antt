-- How calls that make connections are counted, and which connections are kept after a call.
use Rattle.std.specs.Prelude.{◌≡◌, ◌⊎◌, ℕ, List, Result, Ok, Err}
use Rattle.response_reader.specs.Wire.{counted}
use Rattle.connect.specs.declared.connect.ConnectFault.{ConnectFault}
use Rattle.connect.specs.declared.connect.ConnectFault.TheVariants.{Failed, Memory}

-- the count after a call that made no connection: running out of memory isn't counted
abbrev pub refused_by : ℕ → ConnectFault → ℕ
refused_by refused Failed = counted refused 1
refused_by refused Memory = refused

-- a call that answers `Failed` is counted, and no other
abbrev pub CountsRefusal : {A : Type 0} → ℕ → ℕ → Result A ConnectFault → Type 0
CountsRefusal old new (Ok a) = new ≡ old
CountsRefusal old new (Err f) = new ≡ refused_by old f

-- no connection is kept that wasn't before
abbrev pub Stays : {W : Type 0} → (List ℕ → W → Type 0) → (List ℕ → W → Type 0) → Type 0
Stays {W} old new = (of : List ℕ) (wire : W) → new of wire → old of wire

-- except for one to this origin, of which this holds
abbrev pub StaysWith : {W : Type 0} → (List ℕ → W → Type 0) → (List ℕ → W → Type 0) → List ℕ → (W → Type 0) → Type 0
StaysWith {W} old new at Again = (of : List ℕ) (wire : W) → new of wire → old of wire ⊎ ((of ≡ at) × Again wire)
