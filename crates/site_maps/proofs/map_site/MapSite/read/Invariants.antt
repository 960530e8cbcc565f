-- The lines so far are a map, and what is kept represents what they say.
use Rattle.std.proofs.Common.{◌≡◌, List, length, map}
use Rattle.site_maps.specs.Lines.{Statement}
use Rattle.site_maps.specs.Maps.{IsMap}
use Rattle.site_maps.specs.inner.Readings.{TellsAbove}
use Rattle.site_maps.proofs.map_site.MapSite.read.Given as goal

abbrev pub invariant-loop-line : goal.invariant-loop-line
invariant-loop-line l =
    (goal.iterator-loop-line).can_next l.line-iterator ×
    (goal.iterator-loop-line).is_finite l.line-iterator ×
    (l.number ≡ length l.yielded) ×
    ((above : List Statement) × IsMap (map (λ x. x.now) l.yielded) above × TellsAbove l.reading above)
