-- How far the reader has come in the heads of a response.
use Rattle.std.specs.Prelude.{◌≡◌, ℕ, Bool, ◌≤◌, List, ◌++◌, length, Option, Ok}
use Rattle.std.specs.Io.KnownBytes.{Consumes}
use Rattle.httparse.specs.Grammar.{ResponseHead, status_code}
use Rattle.response_reader.specs.declared.fields.Framing.{Framing}
use Rattle.response_reader.specs.Fields.{HeadParts, parts_of, framing_of, lets_stand}
use Rattle.response_reader.specs.declared.limits.TheConstants.{MAX_HEADS}
use Rattle.response_reader.specs.Heads.{ReadsInterims, ReadsHeads, fields_of}

-- interim heads of used bytes were passed over
pub record PassedInterims (before after : Option (List ℕ)) (used : ℕ) : Type 0 where
  pub text : List ℕ
  pub heads : List ResponseHead
  pub reads : (tail : List ℕ) → ReadsInterims heads (text ++ tail) tail
  pub bytes : Consumes before after text
  pub len : length text ≡ used

-- the heads were read, used bytes in all, and frame the body so; lasts says whether the last one lets its connection stay open
pub record FramesAhead (before after : Option (List ℕ)) (head : HeadParts) (framing : Framing) (used : ℕ) (lasts : Bool) : Type 0 where
  pub text : List ℕ
  pub last : ResponseHead
  pub bytes : Consumes before after text
  pub len : length text ≡ used
  pub few : used ≤ MAX_HEADS
  pub heads : (tail : List ℕ) → ReadsHeads (text ++ tail) last tail
  pub head_is : head ≡ parts_of (status_code last) (fields_of last)
  pub framed : framing_of (status_code last) (fields_of last) ≡ Ok framing
  pub lasts_is : lasts ≡ lets_stand last.minor (fields_of last)
