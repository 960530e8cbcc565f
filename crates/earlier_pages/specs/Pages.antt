-- Pages of an earlier run, and the responses that were received, as far as they count for their answers.
use Rattle.std.specs.Prelude.{[], ◌++◌, Option, Some, None, bytes_eq, codes, if◌then◌else◌}
use Rattle.std.specs.Fmt.{decimal}
use Rattle.requests.specs.Conditions.{Condition, condition_of}
use Rattle.mirror_index.specs.Entries.{Entry, Text}

-- what the index says of a page, and its file, of which nothing was read
pub record PageValue (F : Type 0) : Type 0 where
  pub entry : Entry
  pub file : F

-- what is left of a head, and the body after it
pub record Recorded (F : Type 0) : Type 0 where
  pub rest : Text
  pub body : F

-- a tag by which one sees whether a page changed; in a condition `*` means any page (RFC 9110, section 13.1.2)
abbrev pub telling_tag : Option Text → Option Text
telling_tag None = None
telling_tag (Some tag) = if bytes_eq tag (codes "*") then None else Some tag

-- the condition with which a page is requested that has this entry, if its server sent an `ETag` other than `*`, or a `Last-Modified`
abbrev pub condition_by : Entry → Option Condition
condition_by e = condition_of e.address (telling_tag e.head.etag) e.head.last_modified

-- a field of a head, if it has a value (RFC 9112, section 5)
abbrev pub field_line : Text → Option Text → Text
field_line name None = []
field_line name (Some value) = name ++ (codes ": " ++ (value ++ codes "\r\n"))

-- what comes before these fields: the status, and how long the body is (RFC 9112, sections 4 and 6.2)
abbrev pub front_lines : Entry → Text
front_lines e = (codes "HTTP/1.1 " ++ (decimal e.head.status ++ codes " \r\n")) ++ (codes "Content-Length: " ++ (decimal e.size ++ codes "\r\n"))

-- the head of the response that was received, as far as it counts for its answer
abbrev pub recorded_head : Entry → Text
recorded_head e = front_lines e ++ (field_line (codes "Content-Type") e.head.content_type ++ (field_line (codes "ETag") e.head.etag
    ++ (field_line (codes "Last-Modified") e.head.last_modified ++ codes "\r\n")))
