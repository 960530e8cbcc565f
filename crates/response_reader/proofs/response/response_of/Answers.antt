use Rattle.std.proofs.Common.{Some}
use Rattle.response_reader.proofs.ReplyLemmas.{parts_of_gathered}
use Rattle.response_reader.proofs.response.response_of.Goals as goal

pub returns : goal.returns
returns c h body has =
    parts_of_gathered (record { head = h; body = body }) _ c.in-Some.head _ (c.into_parts-head.ensures (Some h) body has) c.in-Some.is
