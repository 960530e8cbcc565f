use Rattle.std.proofs.Common.{◌≡◌, ◌<◌, ◌+◌, [], ◌∷◌, ◌++◌, length, refl, sym, ap, ◌∙◌, arith}
use Rattle.std.proofs.Common.{length-append}
use Rattle.std.proofs.lemmas.List.{length-map}
use Rattle.std.proofs.lemmas.List.Quantifiers.{position-Some}
use Rattle.std.proofs.lemmas.Slice.Eq.{bytes_eq-Decides}
use Rattle.std.specs.Str.{bytes_eq}
use Rattle.work_queues.specs.Lists.{texts, key_at}
use Rattle.work_queues.proofs.SetLaws.{opened_keeps, opened_items, room_keeps, as_many, one_more, key-append_last, none_at, inserted_last, key_differs}
use Rattle.work_queues.proofs.lists.Lists.origin_index.Goals as goal

pub returns-in-Some-clause-ok : goal.returns-in-Some-clause-ok
returns-in-Some-clause-ok c =
    let there = position-Some (bytes_eq c.args.origin) (texts c.args.self.now.origins.entries) c.in-Some.place [] (sym c.in-Some.ensures.index) in
    let lt : c.in-Some.place < length c.args.self.now.origins.entries = simp length-map at there.0 in
    (lt, sym ((bytes_eq-Decides c.args.origin (key_at c.args.self.now.origins.entries c.in-Some.place)).0 there.1))

pub returns-in_err-open-clause-kept : goal.returns-in_err-open-clause-kept
returns-in_err-open-clause-kept c =
    let waiting = c.in_err-open.ensures in
    let kept = c.requires in
    room_keeps c.args.self.now _ kept refl refl waiting.pool waiting.seats (as_many _ _ waiting.err) kept.parked.pool refl (as_many _ _ refl) kept.due_placed refl refl

pub returns-in_err-open-2-clause-kept : goal.returns-in_err-open-2-clause-kept
returns-in_err-open-2-clause-kept c =
    let waiting = c.in_ok-open.ensures in
    let parked = c.in_err-open-2.ensures in
    let kept = c.requires in
    room_keeps c.args.self.now _ kept refl refl waiting.pool waiting.seats (one_more _ _ waiting.ok) parked.pool parked.seats (as_many _ _ parked.err) kept.due_placed refl refl

pub returns-in_err-insert-clause-kept : goal.returns-in_err-insert-clause-kept
returns-in_err-insert-clause-kept c =
    let waiting = c.in_ok-open.ensures in
    let parked = c.in_ok-open-2.ensures in
    let kept = c.requires in
    room_keeps c.args.self.now _ kept c.in_err-insert.ensures.err refl waiting.pool waiting.seats (one_more _ _ waiting.ok) parked.pool parked.seats (one_more _ _ parked.ok) kept.due_placed refl refl

pub returns-clause-kept : goal.returns-clause-kept
returns-clause-kept c =
    let none = none_at (texts c.args.self.now.origins.entries) (bytes_eq c.args.origin) c.in_default.ensures.index in
    let last = c.in_ok-insert.ensures.entries ∙ inserted_last c.args.self.now.origins.entries c.args.origin 0 none in
    opened_keeps c.args.self.now _ c.args.origin c.requires last refl refl
    (λ place lt. key_differs c.args.origin (key_at c.args.self.now.origins.entries place) (none place (simp length-map lt)))
    c.in_ok-open.ensures.pool c.in_ok-open.ensures.seats c.in_ok-open.ensures.ok c.in_ok-open-2.ensures.pool c.in_ok-open-2.ensures.seats c.in_ok-open-2.ensures.ok

pub returns-clause-items : goal.returns-clause-items
returns-clause-items c =
    let none = none_at (texts c.args.self.now.origins.entries) (bytes_eq c.args.origin) c.in_default.ensures.index in
    let last = c.in_ok-insert.ensures.entries ∙ inserted_last c.args.self.now.origins.entries c.args.origin 0 none in
    opened_items c.args.self.now (record { origins = c.insert.new.self; jobs = c.args.self.now.jobs; waiting = c.open.new.self; parked = c.open-2.new.self; due = c.args.self.now.due }) c.args.origin c.requires last refl

pub returns-clause-ok : goal.returns-clause-ok
returns-clause-ok c =
    let none = none_at (texts c.args.self.now.origins.entries) (bytes_eq c.args.origin) c.in_default.ensures.index in
    let last = c.in_ok-insert.ensures.entries ∙ inserted_last c.args.self.now.origins.entries c.args.origin 0 none in
    let count = c.len-place.ensures.len in
    let is : c.len-place.result ≡ length c.args.self.now.origins.entries = omega (arith, count) in
    let more : length c.insert.new.self.entries ≡ length c.args.self.now.origins.entries + 1 = ap (λ z. length z) last ∙ simp length-append (omega arith) in (
      omega (arith, is, more),
      ap (λ z. key_at z c.len-place.result) last
          ∙ ap (λ z. key_at (c.args.self.now.origins.entries ++ (c.args.origin, 0) ∷ []) z) is
          ∙ key-append_last c.args.self.now.origins.entries c.args.origin 0,
    )
