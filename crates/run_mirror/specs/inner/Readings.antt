-- What is found by each syntax.
use Rattle.html_links.specs.Links.{Links}
use Rattle.html_links.specs.declared.context.Syntax.{Syntax}
use Rattle.html_links.specs.declared.context.Syntax.TheVariants.{Html, Xml}

-- what was found by that syntax, of what was found by each
abbrev pub by : Syntax → Links → Links → Links
by Html html xml = html
by Xml html xml = xml
