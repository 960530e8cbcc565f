use Rattle.std.proofs.Common.{[]}
use Rattle.css_links.proofs.Feeding.{given_sheet}
use Rattle.css_links.proofs.scanner.scan.Goals as goal

pub returns : goal.returns
returns c = given_sheet (λ found. found.items) c.finish.result c.feed.new.self c.args.sheet.now (c.in_ok-feed.ensures.ok [] c.new-scanner.ensures) c.finish.ensures.ok
