-- Those of the forms so far are known.
use Rattle.std.proofs.Common.{◌≡◌, map, take}
use Rattle.options.specs.Meant.{begun_of, beginning}
use Rattle.options.specs.inner.Meant.{begun_in}
use Rattle.options.proofs.meant.all_begun.Given as goal

abbrev pub invariant-loop-form : goal.invariant-loop-form
invariant-loop-form l = begun_in l.begun ≡ begun_of (beginning l.front (map (λ form. form.now) (take l.form-index l.forms)))
