-- Each turn keeps the page of one note; at the end no note is left.
use Rattle.std.proofs.Common.{◌≡◌, [], ◌∷◌, sym, ap, ◌∙◌}
use Rattle.std.specs.List.{filter_map}
use Rattle.std.specs.Vec.Iter.{into_iter_items}
use Rattle.std.proofs.lemmas.List.Elements.{filter_map-append}
use Rattle.workers.specs.inner.Noted.{page_of}
use Rattle.workers.proofs.MoveLaws.{piece_moved, all_moved, none_left}
use Rattle.workers.proofs.conclusion.keep_pages.Goals as goal

pub loop-note-preserved : goal.loop-note-preserved
loop-note-preserved g c =
    let at = c.loop-note in
    let note = c.in-Some.note in
    let rest = into_iter_items c.next.new.self in
    let steps : into_iter_items at.note-iterator ≡ note ∷ rest = c.in-Some.ensures.steps.0 in
    piece_moved at.pages.items (filter_map page_of (note ∷ [])) (filter_map page_of rest) _ _ _ (ap (filter_map page_of) steps ∙ filter_map-append page_of (note ∷ []) rest) c.in_ok-keep_page.ensures at.invariant

pub returns : goal.returns
returns g c =
    let at = c.loop-note in
    let none = none_left _ (sym at.note-iterator.rest.ok.0 ∙ c.in-None.ensures.steps.0) in
    all_moved at.pages.items _ _ (ap (filter_map page_of) none) at.invariant
