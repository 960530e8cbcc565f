use Rattle.std.proofs.Common.{◌≡◌, drop}
use Rattle.html_links.specs.Contexts.{named_scope}
use Rattle.html_links.proofs.context.find.Given as goal

abbrev pub invariant-loop-scope : goal.invariant-loop-scope
invariant-loop-scope l = named_scope l.name (drop l.scope-index l.scopes) ≡ named_scope l.name l.scopes
