-- Hops that are led, and don't lead on, are a chain.
use Rattle.std.proofs.Common.{◌≡◌, ◌∙◌, ◌<◌, None, sym, subst, arith}
use Rattle.answer_notes.specs.HopChains.{IsAdmitted}
use Rattle.site_records.specs.Entries.{chain_start, due}
use Rattle.site_records.proofs.EntryLaws.{none_left}
use Rattle.site_records.proofs.ChainLaws.{chain_admitted}
use Rattle.site_records.proofs.hop_row.read_chain.Goals.{else-count-lt-MAX_HOPS-via-then-count-lt-MAX_HOPS+else-is_some, else-count-lt-MAX_HOPS-via-else-count-lt-MAX_HOPS}
use Rattle.site_records.proofs.hop_row.read_chain.Goals as goal

pub new-requires : goal.new-requires
new-requires c =
    let row = c.in_ok-hops.ensures in
    let ends : (c.args.count < 6 → due (chain_start c.args.of.now) c.in_ok-hops.field-0.hops.items ≡ None) =
    elim c.else-count-lt-MAX_HOPS.branch [
      | else-count-lt-MAX_HOPS-via-then-count-lt-MAX_HOPS+else-is_some w ↦ (λ less. sym row.2 ∙ none_left _ _ w.is_some.ensures w.if-is_some.false)
      | else-count-lt-MAX_HOPS-via-else-count-lt-MAX_HOPS w ↦ (λ less. let many = w.if-count-lt-MAX_HOPS.false in absurd (omega (arith, many, less)))
    ] in
    subst (λ o. IsAdmitted o c.in_ok-hops.field-0.hops.items) (sym c.in_ok-try_clone.ensures)
    (chain_admitted c.args.of.now c.in_ok-hops.field-0.hops.items c.args.count row.0.led row.1 c.requires ends)

pub returns : goal.returns
returns c =
    let row = c.in_ok-hops.ensures in
    let hops = c.new.ensures.hops in
    let of = c.new.ensures.of in
    let ends : (c.args.count < 6 → due (chain_start c.args.of.now) c.in_ok-hops.field-0.hops.items ≡ None) =
    elim c.else-count-lt-MAX_HOPS.branch [
      | else-count-lt-MAX_HOPS-via-then-count-lt-MAX_HOPS+else-is_some w ↦ (λ less. sym row.2 ∙ none_left _ _ w.is_some.ensures w.if-is_some.false)
      | else-count-lt-MAX_HOPS-via-else-count-lt-MAX_HOPS w ↦ (λ less. let many = w.if-count-lt-MAX_HOPS.false in absurd (omega (arith, many, less)))
    ] in
    rw (hops, of) (row.0.are, row.1, c.in_ok-try_clone.ensures, chain_admitted c.args.of.now c.in_ok-hops.field-0.hops.items c.args.count row.0.led row.1 c.requires ends)
