-- Why connections are lost, and when that is known.
use Rattle.std.specs.Prelude.{◌≡◌, ◌⊎◌, Option, Some, None, Result, Ok, Err, is_some, true}
use Rattle.std.specs.declared.io.ErrorKind.{ErrorKind}
use Rattle.std.specs.declared.io.ErrorKind.TheVariants as error
use Rattle.connect.specs.declared.connect.ConnectFault.{ConnectFault}
use Rattle.connect.specs.declared.connect.ConnectFault.TheVariants.{Failed, Memory}
use Rattle.run_failures.specs.declared.loss_kind.LossKind.{LossKind}
use Rattle.run_failures.specs.declared.loss_kind.LossKind.TheVariants as loss
use Rattle.tcp_connect.specs.declared.lacks.Lack.{Lack}
use Rattle.tcp_connect.specs.declared.lacks.Lack.TheVariants as lack
use Rattle.tcp_connect.specs.declared.lacks.OpenFault.{OpenFault}
use Rattle.tcp_connect.specs.declared.lacks.OpenFault.TheVariants as unmade

-- why a connection is lost if the system answers an error of this kind
abbrev pub loss_by : ErrorKind → LossKind
loss_by error.ConnectionRefused = loss.Refused
loss_by error.TimedOut = loss.TimedOut
loss_by error.HostUnreachable = loss.Unreachable
loss_by error.NetworkUnreachable = loss.Unreachable
loss_by error.NetworkDown = loss.Unreachable
loss_by error.ConnectionReset = loss.Broken
loss_by error.ConnectionAborted = loss.Broken
loss_by kind = loss.Other

-- why it is lost if the system is short of this
abbrev pub loss_without : Lack → LossKind
loss_without lack.Descriptor = loss.Descriptor
loss_without lack.Port = loss.Port
loss_without lack.Address = loss.Port
loss_without lack.Resolver = loss.Resolver

-- why one wasn't made, and what is answered then; running out of memory loses none
abbrev pub lost_by : OpenFault → Option LossKind
lost_by (unmade.Failed kind) = Some kind
lost_by (unmade.Lacking lack) = Some (loss_without lack)
lost_by unmade.Memory = None

abbrev pub answer_by : OpenFault → ConnectFault
answer_by (unmade.Failed kind) = Failed
answer_by (unmade.Lacking lack) = Failed
answer_by unmade.Memory = Memory

-- after a call that was to make a connection it is known why it was lost, if the call answers `Failed`; else none was lost
abbrev pub TellsLoss : {A : Type 0} → Result A ConnectFault → Option LossKind → Type 0
TellsLoss (Ok made) lost = lost ≡ None
TellsLoss (Err Failed) lost = is_some lost ≡ true
TellsLoss (Err Memory) lost = lost ≡ None

-- after a connection ended the last one was lost for what it was lost for before, unless this one broke: then it has no stream any more
abbrev pub lost_with : {S : Type 0} → Option S → Option LossKind → Option LossKind
lost_with (Some stream) lost = lost
lost_with None lost = Some loss.Broken

-- the same, whether it broke or not
abbrev pub MayBreak : Option LossKind → Option LossKind → Type 0
MayBreak before after = (after ≡ before) ⊎ (after ≡ Some loss.Broken)
