-- The fields of a head, wherever they are kept.
use Rattle.std.specs.Prelude.{option_map, vec_items}
use Rattle.response_reader.specs.Fields.{HeadParts}
use Rattle.response_answer.specs.declared.head_kind.HeadKind.{HeadKind}

-- the head as contracts see it
abbrev pub kind_parts : HeadKind → HeadParts
kind_parts k = record {
  status = k.status;
  content_type = option_map vec_items k.content_type.now;
  coded = k.coded;
  location = option_map vec_items k.location.now;
  retry_after = option_map vec_items k.retry_after.now;
  last_modified = option_map vec_items k.last_modified.now;
  etag = option_map vec_items k.etag.now;
}
