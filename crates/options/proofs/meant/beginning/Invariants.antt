-- Those of the forms so far.
use Rattle.std.proofs.Common.{◌≡◌, map, take}
use Rattle.options.specs.Meant.{beginning}
use Rattle.options.proofs.meant.beginning.Given as goal

abbrev pub invariant-loop-form : goal.invariant-loop-form
invariant-loop-form l = map (λ form. form.now) l.found.items ≡ beginning l.front (map (λ form. form.now) (take l.form-index l.forms))
