use Rattle.html_links.specs.Markup.{attributes, value_behind}
use Rattle.html_links.proofs.Tagging.{settled}
use Rattle.html_links.proofs.lexer.Lexer.settle_attribute.Goals as goal

pub returns : goal.returns
returns c = λ rest.
    let l = c.args.self.now in
    let found = value_behind rest in
    settled l.context l.opens l.wanted l.raw l.styled l.name.items l.attributes.items l.attribute.items found.value c.asked_attribute-self.result (attributes found.rest) c.asked_attribute-self.ensures
