-- What is sent, stage by stage.
use Rattle.std.proofs.Common.{◌≡◌, Bool, true, false, List, Option, Some, None, refl}
use Rattle.std.specs.Prelude.{Err}
use Rattle.requests.specs.Fields.{is_value, read_fields, read_lines, sent_with}
use Rattle.requests.specs.Lines.{Field, Text}
use Rattle.requests.specs.declared.fields.FieldsFault.TheVariants.{Agent, Line, Referer}

pub bad-agent : (agent referer : Option Text) (is_uncached : Bool) (login : Option Text) (lines : Text) → is_value agent ≡ false → read_fields agent referer is_uncached login lines ≡ Err Agent
unfolding read_fields
bad-agent agent referer is_uncached login lines bad = rw bad refl

pub bad-referer : (agent referer : Option Text) (is_uncached : Bool) (login : Option Text) (lines : Text) → is_value agent ≡ true → is_value referer ≡ false → read_fields agent referer is_uncached login lines ≡ Err Referer
unfolding read_fields
bad-referer agent referer is_uncached login lines named bad = rw (named, bad) refl

pub bad-lines : (agent referer : Option Text) (is_uncached : Bool) (login : Option Text) (lines : Text) → is_value agent ≡ true → is_value referer ≡ true → read_lines lines ≡ None → read_fields agent referer is_uncached login lines ≡ Err Line
unfolding read_fields
bad-lines agent referer is_uncached login lines named referred bad = rw (named, referred, bad) refl

pub all-read : (agent referer : Option Text) (is_uncached : Bool) (login : Option Text) (lines : Text) (said : List Field) → is_value agent ≡ true → is_value referer ≡ true → read_lines lines ≡ Some said
    → read_fields agent referer is_uncached login lines ≡ sent_with agent referer is_uncached login (Some said)
unfolding read_fields
all-read agent referer is_uncached login lines said named referred is = rw (named, referred, is) refl
