-- Lost connections, and the lines that report them.
use Rattle.std.specs.Prelude.{◌≡◌, ℕ, ◌+◌, ◌^◌, ◌-◌, ◌==◌, Bool, List, [], ◌++◌, Option, Some, None, min, codes, find, if◌then◌else◌}
use Rattle.std.specs.Fmt.{decimal}
use Rattle.std.specs.List.{flat_map}
use Rattle.address.specs.Address.{AddressText}
use Rattle.run_failures.specs.declared.loss_kind.LossKind.{LossKind}
use Rattle.run_failures.specs.declared.loss_kind.LossKind.TheVariants as kind
use Rattle.run_failures.specs.declared.loss_kind.TheConstants.{KINDS}
use Rattle.run_failures.specs.declared.losses.Loss.{Loss}

-- the number of a kind in the order of its declaration
abbrev pub number_of : LossKind → ℕ
number_of kind.Refused = 0
number_of kind.Unknown = 1
number_of kind.TimedOut = 2
number_of kind.Unreachable = 3
number_of kind.Resolver = 4
number_of kind.Descriptor = 5
number_of kind.Port = 6
number_of kind.Broken = 7
number_of kind.Other = 8

-- the two kinds are one
abbrev pub is_kind : LossKind → LossKind → Bool
is_kind kind asked = number_of kind == number_of asked

-- what follows the number of connections
abbrev pub words_of : LossKind → List ℕ
words_of kind.Refused = codes "refused"
words_of kind.Unknown = codes "to an unknown host"
words_of kind.TimedOut = codes "timed out"
words_of kind.Unreachable = codes "to an unreachable host"
words_of kind.Resolver = codes "without an answer of the resolver"
words_of kind.Descriptor = codes "without a descriptor left"
words_of kind.Port = codes "without a local port left"
words_of kind.Broken = codes "broken"
words_of kind.Other = codes "failed"

-- the loss is of this kind
abbrev pub is_loss_of : LossKind → Loss → Bool
is_loss_of kind loss = is_kind loss.kind kind

-- what was lost of a kind; nothing of some
abbrev pub lost : List Loss → LossKind → Option Loss
lost losses kind = find (is_loss_of kind) losses

-- one more was lost of the loss's kind; the count stays at the largest number, and the first address is kept
abbrev pub raised : Loss → Loss
raised loss = record { kind = loss.kind; count = min (loss.count + 1) (2 ^ 64 - 1); first = loss.first }

-- what was lost of a kind when one more was
abbrev pub one_more : Option Loss → LossKind → AddressText → Loss
one_more None kind at = record { kind = kind; count = 1; first = at }
one_more (Some loss) kind at = raised loss

-- one more was lost of this kind, and of no other
abbrev pub LosesOne : List Loss → List Loss → LossKind → AddressText → Type 0
LosesOne old new kind at = (asked : LossKind) → lost new asked ≡ (if is_kind kind asked then Some (one_more (lost old asked) kind at) else lost old asked)

-- the word for so many connections
abbrev pub noun_of : ℕ → List ℕ
noun_of count = if count == 1 then codes "connection" else codes "connections"

-- the line of what was lost of a kind, such as `3 connections refused, first http://h/x`
abbrev pub loss_line_of : LossKind → Loss → List ℕ
loss_line_of kind loss = decimal loss.count ++ codes " " ++ noun_of loss.count ++ codes " " ++ words_of kind ++ codes ", first " ++ loss.first ++ codes "\n"

-- the line of a kind, if any was lost
abbrev pub loss_line_by : LossKind → Option Loss → List ℕ
loss_line_by kind None = []
loss_line_by kind (Some loss) = loss_line_of kind loss

-- the line of a kind of these losses
abbrev pub line_for : List Loss → LossKind → List ℕ
line_for losses kind = loss_line_by kind (lost losses kind)

-- a line for each kind of which any was lost
abbrev pub loss_lines_of : List Loss → List ℕ
loss_lines_of losses = flat_map (line_for losses) KINDS
