use Rattle.std.proofs.Common.{[]}
use Rattle.html_links.proofs.Scanning.{given_body}
use Rattle.page_links.proofs.rewriter.scan.Goals as goal

pub returns : goal.returns
returns c = given_body c.finish.result c.feed.new.self c.args.syntax c.args.body.now (c.in_ok-feed.ensures.ok c.args.syntax [] c.with_syntax-scanner.ensures) c.finish.ensures.ok
