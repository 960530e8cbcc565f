-- The name of a page by itself.
use Rattle.std.specs.Prelude.{ℕ, Bool, true, false, List}
use Rattle.kept_bodies.specs.declared.body_kind.BodyKind.{BodyKind}
use Rattle.address.specs.Address.{AddressText}
use Rattle.local_names.specs.declared.rules.NameRules.{NameRules}
use Rattle.local_names.specs.PlainNames.{plain_name_of}
use Rattle.local_names.specs.Endings.{ended_name}

-- its plain name: as that of a body of this kind if names have endings, else whatever its body is
abbrev pub lone_name : Bool → NameRules → BodyKind → AddressText → List ℕ
lone_name true rules kind page = ended_name rules kind page
lone_name false rules kind page = plain_name_of rules page
