use Rattle.std.proofs.Common.{nat_le, ◌||◌, ◌==◌}
use Rattle.css_links.specs.Bytes.{is_quote, is_white, is_unfit}
use Rattle.css_links.specs.inner.Spans.{is}
use Rattle.css_links.proofs.Vectors.{widened, unquoted_class}
use Rattle.css_links.proofs.span.unquoted_lanes.Goals as goal

pub returns : goal.returns
returns c =
    let quote = c.either-quote.ensures (is 34) (is 39) c.args.bytes c.equal_to.ensures c.equal_to-2.ensures in
    let last = c.either-last.ensures (is 40) (is 127) c.args.bytes c.equal_to-3.ensures c.equal_to-4.ensures in
    let both = c.either.ensures is_quote (λ b. b == 40 || b == 127) c.args.bytes quote last in
    let seen = c.either-seen.ensures (is 92) (λ b. is_quote b || (b == 40 || b == 127)) c.args.bytes c.equal_to-5.ensures both in
    widened (λ b. nat_le b 32 || (b == 92 || (is_quote b || (b == 40 || b == 127)))) (λ b. is_white b || (b == 92 || is_unfit b)) c.args.bytes c.either-2.result unquoted_class
    (c.either-2.ensures (λ b. nat_le b 32) (λ b. b == 92 || (is_quote b || (b == 40 || b == 127))) c.args.bytes c.at_most.ensures seen)
