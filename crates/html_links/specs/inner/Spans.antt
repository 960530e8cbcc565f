-- The bytes that end a part of a tag or a character reference (HTML Standard, sections 13.2.5.8, 13.2.5.33, 13.2.5.38 and 13.2.5.73).
use Rattle.std.specs.Prelude.{ℕ, Bool}
use Rattle.html_links.specs.Pieces.{ends_tag_name, ends_attribute_name, ends_bare_value}
use Rattle.html_links.specs.References.{ends_name}
use Rattle.html_links.specs.declared.bytes.TagSpan.{TagSpan}
use Rattle.html_links.specs.declared.bytes.TagSpan.TheVariants.{TagName, AttributeName, BareValue, ReferenceName}

-- whether that byte ends the part
abbrev pub ends_span : TagSpan → ℕ → Bool
ends_span TagName byte = ends_tag_name byte
ends_span AttributeName byte = ends_attribute_name byte
ends_span BareValue byte = ends_bare_value byte
ends_span ReferenceName byte = ends_name byte
