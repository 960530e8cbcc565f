use Rattle.css_links.specs.Bytes.{is_quote}
use Rattle.css_links.specs.inner.Spans.{is}
use Rattle.std.proofs.Common.{◌||◌, ◌==◌}
use Rattle.css_links.proofs.span.loud_lanes.Goals as goal

pub returns : goal.returns
returns c =
    let quote = c.either-quote.ensures (is 34) (is 39) c.args.bytes c.equal_to.ensures c.equal_to-2.ensures in
    let last = c.either-last.ensures (is 64) (is 92) c.args.bytes c.equal_to-3.ensures c.equal_to-4.ensures in
    let slash = c.either-slash.ensures (is 47) (λ b. b == 64 || b == 92) c.args.bytes c.equal_to-5.ensures last in
    let paren = c.either-open.ensures (is 40) (λ b. b == 47 || (b == 64 || b == 92)) c.args.bytes c.equal_to-6.ensures slash in
    c.either.ensures is_quote (λ b. b == 40 || (b == 47 || (b == 64 || b == 92))) c.args.bytes quote paren
