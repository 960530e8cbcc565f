-- What the tests of the fronts say.
use Rattle.std.proofs.Common.{◌∙◌, inl, inr, length, refl, sym}
use Rattle.std.proofs.lemmas.List.{take_rest}
use Rattle.mirror_upkeep.specs.Journals.{version}
use Rattle.mirror_upkeep.proofs.ReadingLaws.{after_is, begins-Decides, never_begins}
use Rattle.mirror_upkeep.proofs.reading.after_first.Goals as goal

pub returns-then-starts_with : goal.returns-then-starts_with
returns-then-starts_with c =
    let bytes = c.args.bytes.now in
    let first = c.args.first.now in
    inl (after_is bytes first _ (length first) refl ((begins-Decides bytes first).0 (sym c.starts_with.ensures.value ∙ c.if-starts_with.true)) (take_rest bytes (length first)))

pub returns-then-starts_with-2 : goal.returns-then-starts_with-2
returns-then-starts_with-2 c =
    let bytes = c.args.bytes.now in
    let first = c.args.first.now in
    inr (refl, (begins-Decides first bytes).0 (sym c.starts_with-2.ensures.value ∙ c.if-starts_with-2.true), never_begins bytes first (sym c.starts_with.ensures.value ∙ c.if-starts_with.false))

pub returns-then-starts_with-3 : goal.returns-then-starts_with-3
returns-then-starts_with-3 c =
    let bytes = c.args.bytes.now in
    let first = c.args.first.now in (
      record {
        after = never_begins bytes first (sym c.starts_with.ensures.value ∙ c.if-starts_with.false);
        part = never_begins first bytes (sym c.starts_with-2.ensures.value ∙ c.if-starts_with-2.false);
      },
      (begins-Decides bytes version).0 (sym c.starts_with-3.ensures.value ∙ c.if-starts_with-3.true),
    )

pub returns : goal.returns
returns c =
    let bytes = c.args.bytes.now in
    let first = c.args.first.now in (
      record {
        after = never_begins bytes first (sym c.starts_with.ensures.value ∙ c.if-starts_with.false);
        part = never_begins first bytes (sym c.starts_with-2.ensures.value ∙ c.if-starts_with-2.false);
      },
      never_begins bytes version (sym c.starts_with-3.ensures.value ∙ c.if-starts_with-3.false),
    )
