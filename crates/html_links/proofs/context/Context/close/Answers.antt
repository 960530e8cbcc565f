use Rattle.std.proofs.Common.{refl}
use Rattle.html_links.proofs.Scopes.{popped}
use Rattle.html_links.proofs.context.Context.close.Goals as goal

pub returns : goal.returns
returns c = rw (← c.self.view_is, popped c.self.inside.scopes.items c.pop.new.self.items c.pop.result _ _ c.self.inside.scopes.ok.0 c.pop.ensures.items c.pop.ensures.cases) refl
