-- What is said of a body of which links were looked for.
use Rattle.std.specs.Prelude.{List, ℕ}
use Rattle.address.specs.Address.{AddressText}
use Rattle.kept_bodies.specs.declared.body_kind.BodyKind.{BodyKind}
use Rattle.run_mirror.specs.Mirrors.{Kept}
use Rattle.run_mirror.specs.Anew.{IsAnewAs}
use Rattle.run_mirror.specs.declared.anew.Anew.{Anew}
use Rattle.run_mirror.specs.declared.anew.Anew.TheVariants.{Same, Changed, Left}

-- what an answer says of a body that is of this kind
abbrev pub IsAnswerAs : BodyKind → Kept → AddressText → List ℕ → List ℕ → Anew → Type 0
IsAnswerAs kind run at file body Same = IsAnewAs kind run at file body body
IsAnswerAs kind run at file body (Changed other) = IsAnewAs kind run at file body other.items
IsAnswerAs kind run at file body Left = Unit {0}
