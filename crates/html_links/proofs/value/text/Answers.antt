use Rattle.html_links.specs.Values.{value_text_of}
use Rattle.html_links.proofs.Referencing.{plain}
use Rattle.html_links.proofs.value.text.Goals as goal

pub returns-in-None : goal.returns-in-None
unfolding value_text_of
returns-in-None c = rw (plain c.args.value.now c.in-None.ensures) c.decoded.ensures
