-- When a connection serves again after a response (RFC 9112, sections 9.3 and 9.6).
use Rattle.std.specs.Prelude.{◌≡◌, ℕ, Bool, true, false, not, ◌&&◌, ◌==◌, List, [], ◌++◌, length, Option}
use Rattle.std.specs.Io.KnownBytes.{Consumes}
use Rattle.httparse.specs.Grammar.{ResponseHead}
use Rattle.response_reader.specs.declared.fields.Framing.{Framing}
use Rattle.response_reader.specs.declared.fields.Framing.TheVariants.{NoBody, Sized, Chunked, UntilClose}
use Rattle.response_reader.specs.Fields.{lets_stand}
use Rattle.response_reader.specs.Heads.{fields_of}
use Rattle.response_reader.specs.Limits.{Limited}
use Rattle.response_reader.specs.Response.{ResponseParts, IsResponse}

-- a body that is framed so ends with the input
abbrev pub is_open : Framing → Bool
is_open NoBody = false
is_open (Sized n) = false
is_open Chunked = false
is_open UntilClose = true

-- the bytes begin with the response r, within these limits, whose last head and framing are these, and rest follows
abbrev pub IsResponseWith : Limited → ResponseHead → Framing → List ℕ → ResponseParts → List ℕ → Type 0
IsResponseWith limits last framing bytes r rest =
    (x : IsResponse limits bytes r rest) × (x.heads.last ≡ last) × (x.framing ≡ framing)

-- of a wire a response within these limits was read, text, and over after it. Its connection serves again exactly if the last head lets it
-- stay open, the body doesn't end with the input, and nothing came after the response
pub record Reusable (limits : Limited) (before after : Option (List ℕ)) (reusable : Bool) : Type 0 where
  pub last : ResponseHead
  pub framing : Framing
  pub parts : ResponseParts
  pub text : List ℕ
  pub over : List ℕ
  pub bytes : Consumes before after (text ++ over)
  pub reads : (tail : List ℕ) → (framing ≡ UntilClose → tail ≡ []) → IsResponseWith limits last framing (text ++ tail) parts tail
  pub value : reusable ≡ (lets_stand last.minor (fields_of last) && (not (is_open framing) && (length over == 0)))
