use Rattle.std.proofs.Common.{◌∙◌, ap, refl}
use Rattle.html_links.specs.Links.{Links, with_tags}
use Rattle.html_links.specs.Lexing.{remaining}
use Rattle.html_links.proofs.Scanning.{fresh}
use Rattle.html_links.proofs.scanner.HtmlScanner.with_syntax.Goals as goal

pub returns : goal.returns
returns c = record {
  rest = λ rest. ap (λ (found : Links). with_tags found (remaining c.new.result rest)) c.nothing.ensures ∙ fresh c.args.syntax c.new.result c.new.ensures rest;
  working = refl;
}
