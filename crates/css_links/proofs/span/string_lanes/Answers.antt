use Rattle.std.proofs.Common.{nat_le, ◌||◌, ◌==◌}
use Rattle.css_links.specs.Bytes.{is_newline}
use Rattle.css_links.specs.inner.Spans.{is}
use Rattle.css_links.proofs.Vectors.{widened, string_class}
use Rattle.css_links.proofs.span.string_lanes.Goals as goal

pub returns : goal.returns
returns c =
    widened (λ b. nat_le b 13 || b == 92) (λ b. is_newline b || b == 92) c.args.bytes c.either.result string_class
    (c.either.ensures (λ b. nat_le b 13) (is 92) c.args.bytes c.at_most.ensures c.equal_to.ensures)
