use Rattle.std.proofs.Common.{◌≡◌, length}
use Rattle.html_links.specs.Contexts.{without_foreign}
use Rattle.html_links.proofs.context.Context.end_foreign.Given as goal

abbrev pub invariant-loop-self : goal.invariant-loop-self
invariant-loop-self l = record {
  syntax : l.self.syntax ≡ l.fn.self.syntax;
  foreign : without_foreign l.self.scopes ≡ without_foreign l.fn.self.scopes;
}

abbrev pub decreases-loop-self : goal.decreases-loop-self
decreases-loop-self l = length l.self.scopes
