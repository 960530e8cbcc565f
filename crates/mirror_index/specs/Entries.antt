-- What is kept of a page, and the line that says it.
use Rattle.std.specs.Prelude.{◌≡◌, ◌++◌, ◌^◌, ◌<◌, ◌≤◌, ℕ, false, List, [], ◌∷◌, Option, Some, None, IsUtf8, codes, length, nat_eq, take}
use Rattle.std.specs.Fmt.{decimal}
use Rattle.std.specs.List.{list_any, starts_with}
use Rattle.address.specs.Address.{AddressText, IsAddress}
use Rattle.entry_lines.specs.Fields.{fields_text}
use Rattle.hex.specs.Hex.{IsBytes, encode_lower}
use Rattle.local_names.specs.LocalNames.{StaysInside}
use Rattle.local_names.specs.PlainNames.{is_control}
use Rattle.sha2.specs.Sha256.{sha256}
use Rattle.mirror_index.specs.declared.entry.Mark.{Mark}
use Rattle.mirror_index.specs.declared.entry.Mark.TheVariants.{Changed, Digest}
use Rattle.mirror_index.specs.declared.entry.TheConstants.{MAX_LINE}

abbrev pub Text : Type 0
Text = List ℕ

-- what was said with a page: its status, and the values of `Content-Type`, `ETag` and `Last-Modified`
pub record KeptHead : Type 0 where
  pub status : ℕ
  pub content_type : Option Text
  pub etag : Option Text
  pub last_modified : Option Text

-- a page that is kept: its address, the name of its file, how many bytes that has and by what one sees that they are the same, and what was
-- said with it
pub record Entry : Type 0 where
  pub address : AddressText
  pub name : Text
  pub size : ℕ
  pub mark : Mark
  pub head : KeptHead

-- ---- the line

-- a value that may be missing
abbrev pub value_field : Option Text → Text
value_field None = codes "-"
value_field (Some value) = 61 ∷ value

abbrev pub head_fields : KeptHead → List Text
head_fields t = decimal t.status ∷ value_field t.content_type ∷ value_field t.etag ∷ value_field t.last_modified ∷ []

-- the digits of a digest, or a time after `@`
abbrev pub mark_field : Mark → Text
mark_field (Digest digest) = encode_lower digest
mark_field (Changed time) = 64 ∷ decimal time

abbrev pub entry_fields : Entry → List Text
entry_fields e = e.address ∷ e.name ∷ decimal e.size ∷ mark_field e.mark ∷ head_fields e.head

-- what shows that a text wasn't damaged
unfoldable pub check_of : Text → Text
check_of text = take 16 (encode_lower (sha256 text))

-- the fields, each with a space after it, and the check of all that
abbrev pub checked_text : List Text → Text
checked_text fields = fields_text fields ++ check_of (fields_text fields)

abbrev pub entry_line : Entry → Text
entry_line e = checked_text (entry_fields e)

-- the line of a text, which is its one field
abbrev pub text_line : Text → Text
text_line text = checked_text (text ∷ [])

-- ---- which entries may be

-- a name leads nowhere but below its folder, is a text without control bytes, and isn't that of a file of the program's own
pub record IsName (name : Text) : Type 0 where
  pub inside : StaysInside name
  pub utf8 : IsUtf8 name
  pub visible : list_any is_control name ≡ false
  pub other : starts_with nat_eq name (codes ".wgetr%") ≡ false

-- 32 bytes
pub record IsDigest (digest : List ℕ) : Type 0 where
  pub size : length digest ≡ 32
  pub bytes : IsBytes digest

-- a digest, or a number of 64 bits
abbrev pub IsMark : Mark → Type 0
IsMark (Digest digest) = IsDigest digest
IsMark (Changed time) = time < 2 ^ 64

-- what all entries of the code are
pub record HasParts (e : Entry) : Type 0 where
  pub address : IsAddress e.address
  pub size : e.size < 2 ^ 64
  pub status : e.head.status < 2 ^ 16
  pub mark : IsMark e.mark

pub record IsEntry (e : Entry) : Type 0 where
  pub parts : HasParts e
  pub name : IsName e.name
  pub short : length (entry_line e) ≤ MAX_LINE
