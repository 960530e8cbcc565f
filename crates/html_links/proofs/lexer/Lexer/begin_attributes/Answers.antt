use Rattle.html_links.specs.Markup.{attributes}
use Rattle.html_links.proofs.Tagging.{begun}
use Rattle.html_links.proofs.lexer.Lexer.begin_attributes.Goals as goal

pub returns : goal.returns
returns c = λ rest.
    rw (c.clear.ensures.items, c.is_styled-self.ensures, c.in_start_tag-self.ensures, c.deref.ensures.value, c.opens-self.ensures, c.deref-2.ensures.value, c.break_out.ensures, c.deref-3.ensures.value)
    (begun c.args.self.now.context c.args.self.now.name.items c.raw_element-self.result (attributes rest) c.raw_element-self.ensures)
