-- The texts are short, and so the line is.
use Rattle.std.proofs.Common.{◌<◌, ◌^◌, ◌∙◌, option_map, subst}
use Rattle.address.specs.Address.{IsAddress}
use Rattle.mirror_index.specs.Entries.{HasParts, KeptHead}
use Rattle.mirror_index.proofs.ShortLaws.{surely_short}
use Rattle.mirror_index.proofs.entry.is_surely_short.Goals as goal

pub returns-clause-short : goal.returns-clause-short
returns-clause-short c last =
    let parts : HasParts c.args.entry.now = record {
      address = subst IsAddress c.address.ensures c.as_str.ensures.address;
      size = c.size.ensures.fits;
      status = subst (λ (h : KeptHead). h.status < 2 ^ 16) c.head-head.ensures c.status.ensures.fits;
      mark = c.mark.ensures.is;
    } in
    surely_short c.args.entry.now c.head-head.result.now c.as_str.result.now c.name.result.now (option_map (λ v. v.now) c.content_type.result) (option_map (λ v. v.now) c.etag.result)
    (option_map (λ v. v.now) c.last_modified.result) parts c.head-head.ensures (c.as_str.ensures.value ∙ c.address.ensures) c.name.ensures c.content_type.ensures c.etag.ensures c.last_modified.ensures
    c.if-as_str-gt-FEW.false c.if-name-gt-FEW.false (c.has_few.ensures c.if-not-has_few.false) (c.has_few-2.ensures c.if-not-has_few-2.false) (c.has_few-3.ensures last)
