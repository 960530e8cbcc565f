use Rattle.css_links.specs.Scanning.{front_of}
use Rattle.css_links.proofs.Feeding.{fed_on, fed_whole}
use Rattle.css_links.proofs.scanner.Scanner.feed.Goals as goal

pub returns-clause-ok : goal.returns-clause-ok
returns-clause-ok c = λ front stands. record {
  front = fed_on c.args.self.now.front (front_of c.loop-left.self-inside.machine) c.loop-left.left.now c.args.piece.now front c.in_default.len_below c.loop-left.invariant.rest stands.front;
  working = c.loop-left.invariant.working;
}

pub returns-clause-front : goal.returns-clause-front
returns-clause-front c = fed_whole c.args.self.now.front (front_of c.loop-left.self-inside.machine) c.loop-left.left.now c.args.piece.now c.in_default.len_below c.loop-left.invariant.rest
