-- The limit of what is looked through is the documented number.
use Rattle.std.proofs.Common.{◌≡◌, refl}
use Rattle.response_reader.specs.Limits.{standard}
use Rattle.response_answer.specs.declared.stage.TheConstants.{MAX_SCANNED}

-- as many bytes of a body as links are looked for in, which are all of a body within the usual limits
looked_through : (MAX_SCANNED ≡ 16777216) × (MAX_SCANNED ≡ standard.body)
looked_through = (refl, refl)
