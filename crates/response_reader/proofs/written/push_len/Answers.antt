-- The status has a body, so its length is written.
use Rattle.std.proofs.Common.{◌≡◌, ◌++◌, false, sym, ◌∙◌, append-nil}
use Rattle.std.specs.Prelude.{decimal}
use Rattle.httparse.specs.Ascii.{crlf_bytes}
use Rattle.response_reader.specs.Fields.{has_no_body}
use Rattle.response_reader.proofs.written.push_len.Goals as goal

pub returns : goal.returns
returns c =
    let has : has_no_body c.args.status ≡ false = sym c.has_no_body.ensures ∙ c.if-has_no_body.false in
    rw (has, append-nil (decimal c.args.len ++ crlf_bytes), ← c.in_ok-digits.ensures.ok, ← c.as_bytes.ensures.value) c.push_field.ensures
