-- Each turn adds the notes of one fetcher.
use Rattle.std.proofs.Common.{◌≡◌, ◌∙◌, ◌++◌, List, [], ◌∷◌, ap, append-nil, refl}
use Rattle.std.specs.List.{flat_map}
use Rattle.std.proofs.lemmas.List.{drop_all}
use Rattle.std.proofs.lemmas.Grind.{flat_map-append}
use Rattle.std.proofs.lemmas.Result.{IfOk-from_err}
use Rattle.answer_notes.specs.declared.noted.Noted.{Noted}
use Rattle.site_records.specs.WrittenRecords.{all_noted}
use Rattle.workers.proofs.MoveLaws.{all_moved}
use Rattle.retriever.proofs.SavingLaws.{next_noted}
use Rattle.retriever.proofs.saved_run.parts_of.Goals as goal

one_more : {P N : Type 0} (h : P → List N) (parts new : List P) (part : P) (notes : List N) → new ≡ parts ++ part ∷ [] → h part ≡ notes → flat_map h new ≡ flat_map h parts ++ notes
one_more h parts new part notes is same = ap (λ ps. flat_map h ps) is ∙ flat_map-append h parts (part ∷ []) ∙ ap (λ ns. flat_map h parts ++ ns) (append-nil (h part) ∙ same)

pub loop-fetcher-init : goal.loop-fetcher-init
loop-fetcher-init g c =
    let first : all_noted c.push.new.self.items ≡ all_noted c.new-parts.result.items ++ c.args.given.now = one_more _ _ _ _ _ c.in_ok-push.ensures.items refl in
    let given : all_noted c.push.new.self.items ≡ c.args.given.now = first ∙ ap (λ ps. all_noted ps ++ c.args.given.now) c.new-parts.ensures.items in
    ap (λ (ns : List Noted). ns ++ flat_map g.F.Recording.noted c.args.fetchers.now) given

pub loop-fetcher-preserved : goal.loop-fetcher-preserved
loop-fetcher-preserved g c =
    let at = c.loop-fetcher in
    let noted = g.F.Recording.noted in
    let more : all_noted c.push-in-loop-fetcher.new.self.items ≡ all_noted at.parts.items ++ noted c.fetcher-item.result = one_more _ _ _ _ _ c.in_ok-push-2.ensures.items c.notes.ensures in
    next_noted c.args.fetchers.now at.fetcher-index c.fetcher-item.result noted (all_noted at.parts.items) (all_noted c.push-in-loop-fetcher.new.self.items) _ c.loop-fetcher-test.true c.fetcher-item.is more at.invariant

pub returns-in_err-push : goal.returns-in_err-push
returns-in_err-push g c = IfOk-from_err _ _ c.from_residual.ensures.0

pub returns : goal.returns
returns g c =
    let at = c.loop-fetcher in
    let noted = g.F.Recording.noted in
    all_moved _ _ _ (ap (λ fs. flat_map noted fs) (drop_all at.fetcher-index c.args.fetchers.now c.loop-fetcher-test.false)) at.invariant
